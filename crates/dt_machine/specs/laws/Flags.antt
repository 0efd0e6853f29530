-- The flags of a set have the probes that the set has.
use Rattle.std.proofs.Common.{◌≡◌, ◌↔◌, ℕ, ◌+◌, ◌<◌, ◌≤◌, false, IsTrue, Some, None, length, map}
use Rattle.std.proofs.Common.{ap, sym, ◌∙◌, arith, ⊎_elim}
use Rattle.std.proofs.lemmas.Bool.{cases_lt, false≢true}
use Rattle.std.proofs.lemmas.List.FromFn.{get_or-map-range_with_len, length-map-range_with_len}
use Rattle.std.proofs.lemmas.Option.{slice_get-get_or, slice_get_past}
use Rattle.std.specs.List.{range_with_len, slice_get}
use Rattle.dt_machine.specs.Interest.{has_probe, flags_of, Names}
use Rattle.dt_machine.specs.Limits.{probe_id_max}
use Rattle.dt_machine.specs.declared.interest.Interest.{Interest}

module _ (interest : Interest) where
  long : length (map (has_probe interest) (range_with_len 0 (probe_id_max + 1))) ≡ probe_id_max + 1
  long = length-map-range_with_len (has_probe interest) 0 (probe_id_max + 1)

  flag_at : (id : ℕ) → id ≤ probe_id_max → slice_get (flags_of interest) id ≡ Some (has_probe interest id)
  unfolding flags_of
  flag_at id low =
      slice_get-get_or (map (has_probe interest) (range_with_len 0 (probe_id_max + 1))) id false (omega (arith, long))
      ∙ ap Some (get_or-map-range_with_len (has_probe interest) 0 (probe_id_max + 1) id id false (omega arith) (omega arith))

  no_flag_at : (id : ℕ) → probe_id_max < id → slice_get (flags_of interest) id ≡ None
  unfolding flags_of
  no_flag_at id far =
      slice_get_past (map (has_probe interest) (range_with_len 0 (probe_id_max + 1))) id (omega (arith, long))

  -- the flags name exactly the probes of the set
  pub names_flags : ((id : ℕ) → probe_id_max < id → has_probe interest id ≡ false)
      → (id : ℕ) → Names (flags_of interest) id ↔ IsTrue (has_probe interest id)
  names_flags bounded id =
      ⊎_elim
      (λ (low : id < probe_id_max + 1).
      let is = flag_at id (omega arith) in (λ names. cc, λ has. is ∙ ap Some has))
      (λ (far : probe_id_max + 1 ≤ id).
      let none = no_flag_at id (omega arith) in (
        λ names. cc,
        λ has. absurd (false≢true (sym (bounded id (omega arith)) ∙ has)),
      ))
      (cases_lt id (probe_id_max + 1))
