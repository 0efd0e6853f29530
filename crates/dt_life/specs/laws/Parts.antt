-- The parts that ends take out, one end after another.
use Rattle.std.proofs.Common.{◌≡◌, ℕ, ◌+◌, ◌<◌, ◌≤◌, List, [], ◌∷◌, ◌++◌, length, take, refl, ap, ◌∙◌, arith}
use Rattle.std.specs.List.{enumerate_from, flat_map}
use Rattle.std.proofs.lemmas.List.{append-nil, map-append, take-append-le, take_all}
use Rattle.std.proofs.lemmas.Grind.{flat_map-append}
use Rattle.dt_record.specs.Taking.{SpecEndForm}
use Rattle.dt_speculation.specs.History.{SpecPast, free, specs_then}
use Rattle.dt_life.specs.Takings.{ended_id, freed_by, part_out, parts_out}

module _ {X : Type 0} where
  numbered-append : (xs ys : List X) (from : ℕ)
      → enumerate_from from (xs ++ ys) ≡ enumerate_from from xs ++ enumerate_from (from + length xs) ys
  numbered-append [] ys from = ap (λ n. enumerate_from n ys) (omega arith)
  numbered-append (x ∷ xs) ys from =
      ap (λ rest. (from, x) ∷ rest) (numbered-append xs ys (from + 1)
      ∙ ap (λ n. enumerate_from (from + 1) xs ++ enumerate_from n ys) (omega arith))

  flat_alike : {Y : Type 0} (f g : ℕ × X → List Y) (xs : List X) (from : ℕ)
      → ((i : ℕ) (x : X) → from ≤ i → i < from + length xs → f (i, x) ≡ g (i, x))
      → flat_map f (enumerate_from from xs) ≡ flat_map g (enumerate_from from xs)
  flat_alike f g [] from alike = refl
  flat_alike f g (x ∷ xs) from alike =
      ap (λ a. a ++ flat_map f (enumerate_from (from + 1) xs)) (alike from x (omega arith) (omega arith))
      ∙ ap (λ b. g (from, x) ++ b)
      (flat_alike f g xs (from + 1) (λ i y least most. alike i y (omega (arith, least)) (omega (arith, most))))

module _ (cpu : ℕ) (specs : SpecPast) where
  abbrev out_of : List SpecEndForm → ℕ × SpecEndForm → List (List ℕ)
  out_of ends one = part_out cpu (specs_then specs (freed_by (take one.0 ends))) one.1

  -- one end more takes out its part after what those before it freed
  pub parts_out_more : (ends : List SpecEndForm) (end : SpecEndForm)
      → parts_out cpu specs (ends ++ end ∷ []) ≡ parts_out cpu specs ends ++ part_out cpu (specs_then specs (freed_by ends)) end
  parts_out_more ends end =
      let all = ends ++ end ∷ [] in
      let last : take (0 + length ends) all ≡ ends =
      take-append-le (0 + length ends) ends (end ∷ []) (omega arith) ∙ take_all (0 + length ends) ends (omega arith) in
      ap (flat_map (out_of all)) (numbered-append ends (end ∷ []) 0)
      ∙ flat_map-append (out_of all) (enumerate_from 0 ends) ((0 + length ends, end) ∷ [])
      ∙ ap (λ xs. xs ++ (out_of all (0 + length ends, end) ++ []))
      (flat_alike (out_of all) (out_of ends) ends 0
      (λ i e least most. ap (λ es. part_out cpu (specs_then specs (freed_by es)) e)
      (take-append-le i ends (end ∷ []) (omega (arith, most)))))
      ∙ ap (λ xs. parts_out cpu specs ends ++ xs) (append-nil (out_of all (0 + length ends, end)))
      ∙ ap (λ es. parts_out cpu specs ends ++ part_out cpu (specs_then specs (freed_by es)) end) last

  -- and frees its identifier after them
  pub freed_more : (ends : List SpecEndForm) (end : SpecEndForm)
      → freed_by (ends ++ end ∷ []) ≡ freed_by ends ++ free (ended_id end) ∷ []
  freed_more ends end = map-append (λ (e : SpecEndForm). free (ended_id e)) ends (end ∷ [])
