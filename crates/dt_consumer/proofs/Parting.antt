-- The parts that ends take out of speculations, one end after another.
use Rattle.std.proofs.Common.{◌≡◌, ℕ, ◌+◌, ◌<◌, Bool, List, [], ◌∷◌, ◌++◌, length, get_or, take, map, append_assoc, sym, ap, ◌∙◌, subst}
use Rattle.std.proofs.lemmas.List.{append-nil, map-append, take_more}
use Rattle.dt_record.specs.Forms.{form_of_end}
use Rattle.dt_record.specs.Taking.{SpecEndForm}
use Rattle.dt_record.specs.declared.parts.SpecEnd.{SpecEnd}
use Rattle.dt_speculation.specs.History.{SpecEvent, SpecPast, specs_then}
use Rattle.dt_speculation.specs.IsAt.{SpecsAt}
use Rattle.dt_speculation.specs.declared.speculations.Specs.{Specs}
use Rattle.dt_consumer.specs.Tallies.{AreTallied, Tally, with_records}
use Rattle.dt_consumer.specs.declared.processor.Processor.{Processor}
use Rattle.dt_consumer.proofs.Tallying.{records_both, retallied}
use Rattle.dt_life.specs.Takings.{freed_by, part_out, parts_out}
use Rattle.dt_life.specs.laws.Parts.{freed_more, parts_out_more}

-- the same past, written in another way
pub events_both : (past : SpecPast) (xs ys : List SpecEvent) → specs_then (specs_then past xs) ys ≡ specs_then past (xs ++ ys)
events_both past xs ys =
    ap (λ events. record { nspec = past.nspec; specsize = past.specsize; events = events }) (append_assoc past.events xs ys)

pub events_none : (past : SpecPast) → specs_then past [] ≡ past
events_none past =
    ap (λ events. record { nspec = past.nspec; specsize = past.specsize; events = events }) (append-nil past.events)

-- the ends of a list that code goes over, one more
ends_step : (all : List SpecEnd) (i : ℕ) (d : SpecEnd) → i < length all
    → map form_of_end (take (i + 1) all) ≡ map form_of_end (take i all) ++ form_of_end (get_or all i d) ∷ []
ends_step all i d inside =
    ap (map form_of_end) (take_more all i d inside) ∙ map-append form_of_end (take i all) (get_or all i d ∷ [])

module _ (past : SpecPast) (all : List SpecEnd) (i : ℕ) (d : SpecEnd) (inside : i < length all) where
  abbrev done : List SpecEndForm
  done = map form_of_end (take i all)

  pub freed_step : (specs : Specs)
      → SpecsAt (specs_then (specs_then past (freed_by (map form_of_end (take i all))))
      (freed_by (form_of_end (get_or all i d) ∷ []))) specs
      → SpecsAt (specs_then past (freed_by (map form_of_end (take (i + 1) all)))) specs
  freed_step specs h =
      subst (λ p. SpecsAt p specs)
      (events_both past (freed_by done) (freed_by (form_of_end (get_or all i d) ∷ []))
      ∙ ap (specs_then past) (sym (freed_more 0 past done (form_of_end (get_or all i d))))
      ∙ ap (λ ends. specs_then past (freed_by ends)) (sym (ends_step all i d inside)))
      h

  pub ended_step : (in_end : Bool) (tallies : ℕ → Tally) (processors : List Processor)
      → AreTallied (λ cpu. with_records in_end
      (part_out cpu (specs_then past (freed_by (map form_of_end (take i all)))) (form_of_end (get_or all i d)))
      (with_records in_end (parts_out cpu past (map form_of_end (take i all))) (tallies cpu))) processors
      → AreTallied (λ cpu. with_records in_end (parts_out cpu past (map form_of_end (take (i + 1) all))) (tallies cpu))
      processors
  ended_step in_end tallies processors h =
      retallied _ (λ cpu. with_records in_end (parts_out cpu past (map form_of_end (take (i + 1) all))) (tallies cpu))
      processors
      (λ cpu.
      records_both in_end (parts_out cpu past done)
      (part_out cpu (specs_then past (freed_by done)) (form_of_end (get_or all i d))) (tallies cpu)
      ∙ ap (λ records. with_records in_end records (tallies cpu))
      (sym (parts_out_more cpu past done (form_of_end (get_or all i d))))
      ∙ ap (λ ends. with_records in_end (parts_out cpu past ends) (tallies cpu)) (sym (ends_step all i d inside)))
      h
