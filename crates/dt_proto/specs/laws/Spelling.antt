-- The trail of a view that a machine can bring can be written: no newline is in it, and its numbers are small.
use Rattle.std.proofs.Common.{◌≡◌, ℕ, zero, suc, ◌<◌, ◌≤◌, ◌++◌, Bool, true, false, List, [], ◌∷◌, Option, Some, None}
use Rattle.std.proofs.Common.{IfSome, MatchBool, length, refl, sym, ◌∙◌, subst, ⊎_elim, arith}
use Rattle.std.proofs.lemmas.List.{append_cancel_right}
use Rattle.std.specs.List.{AllByRecursion, slice_get}
use Rattle.std.specs.Option.{option_and_then}
use Rattle.dt_cred.specs.declared.account.Account.{Account}
use Rattle.dt_cred.specs.declared.firing.Firing.{Firing}
use Rattle.dt_life.specs.Answer.{Answer}
use Rattle.dt_life.specs.Life.{Item, is_over}
use Rattle.dt_life.specs.Reply.{Replies}
use Rattle.dt_machine.specs.Limits.{script_max}
use Rattle.dt_machine.specs.Registry.{Contents, IsSound, IsInScript, firing_at}
use Rattle.dt_proto.specs.Alone.{Reached, own_line, firing_made}
use Rattle.dt_proto.specs.Brought.{IsBrought, IsOneLine, HasOnlyLines}
use Rattle.dt_proto.specs.Line.{ask_in}
use Rattle.dt_proto.specs.Lines.{LineForm, short_line, long_line}
use Rattle.dt_proto.specs.Reply.{reply_text}
use Rattle.dt_proto.specs.Splits.{HasNoNewline, with_newline}
use Rattle.dt_proto.specs.Trail.{WrittenItem, fired_at, IsWritable, IsItemOf, IsToldFiring, IsTrailOf}
use Rattle.dt_proto.specs.Trail.{SpellsTrail, trail_text}
use Rattle.dt_proto.specs.laws.OneLine.{reply_is_line}

-- what stands in a list stands before its end
within : {A : Type 0} (xs : List A) (i : ℕ) (x : A) → slice_get xs i ≡ Some x → i < length xs
within [] i x e = cc
within (y ∷ xs) zero x e = omega arith
within (y ∷ xs) (suc i) x e = let less = within xs i x e in omega (arith, less)

-- a reply without its newline is one line
told_line : (reply : List ℕ) (answer : Answer) → with_newline reply ≡ reply_text answer → HasNoNewline reply
told_line reply answer is =
    let line = reply_is_line answer in
    let same : reply ≡ line.0 = append_cancel_right reply line.0 (10 ∷ []) (is ∙ line.1) in
    subst HasNoNewline (sym same) line.2

line_writable : (line : LineForm) (answer : Answer) (item : WrittenItem) → IsOneLine line → IsItemOf line answer item
    → IsWritable item
line_writable (short_line bytes) answer item one h = subst IsWritable (sym h.1) (one, told_line h.0 answer h.2)
line_writable long_line answer item one h = subst IsWritable (sym h.1) (told_line h.0 answer h.2)

all_after : (items new : List WrittenItem) → AllByRecursion IsWritable items → AllByRecursion IsWritable new
    → AllByRecursion IsWritable (items ++ new)
all_after [] new h k = k
all_after (item ∷ items) new h k = (h.0, all_after items new h.1 k)

module _ (contents : Contents) (sound : IsSound contents) where
  -- the script of a firing's processor, and its place there
  row_within : (script : Option (List Firing)) (place : ℕ) (firing : Firing)
      → IfSome script (λ rows. length rows ≤ script_max)
      → option_and_then (λ rows. slice_get rows place) script ≡ Some firing → place < script_max
  row_within None place firing short e = cc
  row_within (Some rows) place firing short e = let less = within rows place firing e in omega (arith, less, short)

  firing_writable : (firing : Firing) → firing_at contents.scripts firing.cpu firing.place ≡ Some firing
      → IsWritable (fired_at firing.cpu firing.place)
  firing_writable firing there =
      let placed : IsInScript contents.registry firing.cpu firing.place firing =
      rw there at (sound.placed firing.cpu firing.place) in
      let cpu = placed.belongs.cpu in
      let few = sound.few_cpus in
      let place = row_within (slice_get contents.scripts firing.cpu) firing.place firing (sound.short firing.cpu) there in
      (omega (arith, cpu, few), omega (arith, place))

  module _ (account : Account) where
    told_writable : (life : List Item) (line : LineForm) (over : Bool) (new : List WrittenItem) → IsOneLine line
        → MatchBool over (new ≡ []) ((answer : Answer) × (item : WrittenItem)
        × Replies account contents.registry life (ask_in line) answer × IsItemOf line answer item × (new ≡ item ∷ []))
        → AllByRecursion IsWritable new
    told_writable life line true new one h = subst (AllByRecursion IsWritable) (sym h) tt
    told_writable life line false new one h =
        subst (AllByRecursion IsWritable) (sym h.4) (line_writable line h.0 h.1 one h.3, tt)

    seen_writable : (life : List Item) (firing : Firing) (new : List WrittenItem)
        → firing_at contents.scripts firing.cpu firing.place ≡ Some firing
        → IsToldFiring account contents.registry life firing new → AllByRecursion IsWritable new
    seen_writable life firing new there h =
        ⊎_elim
        (λ yes. subst (AllByRecursion IsWritable) (sym yes.1) (firing_writable firing there, tt))
        (λ no. subst (AllByRecursion IsWritable) (sym no.1) tt)
        h

    trail_writable : (view : List Reached) (items : List WrittenItem) → IsBrought contents view → HasOnlyLines view
        → IsTrailOf account contents.registry view items → AllByRecursion IsWritable items
    trail_writable [] items brought lines h = subst (AllByRecursion IsWritable) (sym h) tt
    trail_writable (own_line line ∷ view) items brought lines h =
        subst (AllByRecursion IsWritable) (sym h.6)
        (all_after h.1 h.2 (trail_writable view h.1 brought.0 lines.1 h.4)
        (told_writable h.0 line (is_over h.0) h.2 lines.0 h.5))
    trail_writable (firing_made firing ∷ view) items brought lines h =
        subst (AllByRecursion IsWritable) (sym h.6)
        (all_after h.1 h.2 (trail_writable view h.1 brought.0 lines.1 h.4)
        (seen_writable h.0 firing h.2 brought.1 h.5))

    -- The text of such a trail tells the account's name and the items.
    pub trail_spelled : (view : List Reached) (items : List WrittenItem) → HasNoNewline account.name
        → IsBrought contents view → HasOnlyLines view → IsTrailOf account contents.registry view items
        → SpellsTrail (trail_text account.name items) account.name items
    trail_spelled view items named brought lines h = record {
      spelled = refl;
      named = named;
      writable = trail_writable view items brought lines h;
    }
