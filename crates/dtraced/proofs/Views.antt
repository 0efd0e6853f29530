-- No line stands after an accepted `close` in what a service's session has served.
use Rattle.std.proofs.Common.{◌≡◌, ℕ, ◌+◌, ◌==◌, ◌||◌, ◌⊎◌, inl, inr, Bool, true, false, cond, List, [], ◌∷◌, ◌++◌, Option, Some, None, filter, map, refl, sym, ap, ◌∙◌, subst, arith}
use Rattle.std.proofs.lemmas.Bool.Decides.{nat_tests}
use Rattle.std.proofs.lemmas.List.Folds.{list_any-append}
use Rattle.std.specs.List.{list_any}
use Rattle.std.specs.Option.{option_map, option_to_list}
use Rattle.dt_cred.specs.declared.account.Account.{Account}
use Rattle.dt_cred.specs.declared.firing.Firing.{Firing}
use Rattle.dt_legal.specs.Rows.{IsLegalRow, line_form_of, past_of, told_as}
use Rattle.dt_legal.specs.laws.Beginning.{past_of_both, past_of_last}
use Rattle.dt_life.specs.Life.{Item}
use Rattle.dt_life.specs.Life.{fired as seen_item}
use Rattle.dt_machine.specs.Registry.{Contents, firing_at}
use Rattle.dt_proto.specs.Legal.{life_of_trail}
use Rattle.dt_proto.specs.Lines.{LineForm, line_form}
use Rattle.dt_proto.specs.Lines.{long_line as long_form}
use Rattle.dt_proto.specs.Trail.{WrittenItem, line_asked, long_asked, fired_at}
use Rattle.dt_server.specs.Served.{IsServed, IsClosed, IsPastQuota, IsCutOff, HasServed, closes, lines_in}
use Rattle.dt_server.specs.declared.ended.Ended.{Ended}
use Rattle.dt_server.specs.declared.ended.Ended.TheVariants as ended
use Rattle.dt_steps.specs.Trails.{EndsAtClose, IsNoLineAfterClose, is_closed}
use Rattle.dt_steps.specs.World.{is_closing}
use Rattle.dt_trail.specs.Items.{TrailItem, line, long_line, fired, own}

-- the item asks to close the session
asks_close : WrittenItem → Bool
asks_close (line_asked bytes reply) = closes (line_form bytes)
asks_close (long_asked reply) = closes long_form
asks_close (fired_at cpu place) = false

-- what a filter leaves out
left_out : (closing : Bool) (form : LineForm) (rest : List LineForm) → cond closing (form ∷ rest) rest ≡ []
    → (closing ≡ false) × (rest ≡ [])
left_out true form rest h = absurd (cc h)
left_out false form rest h = (refl, h)

both_false : (a b : Bool) → (a || b) ≡ false → (a ≡ false) × (b ≡ false)
both_false true b h = absurd (cc h)
both_false false b h = (refl, h)

-- a firing is no line
no_line : (cpu place : ℕ) (rest : List TrailItem) → own 0 (fired cpu place ∷ rest) ≡ own 0 rest
no_line cpu place rest = let no : (cpu + 1 == 0) ≡ false = grind (arith, nat_tests) in rw no refl

-- one item more at the beginning of a row without a `close`
one_before : (item : TrailItem) (items : List TrailItem) → list_any asks_close (past_of items) ≡ false → asks_close (told_as item) ≡ false
    → list_any asks_close (past_of (item ∷ items)) ≡ false
unfolding asks_close
one_before item items rest none =
    ap (list_any asks_close) (past_of_both (item ∷ []) items) ∙ list_any-append asks_close (past_of items) (told_as item ∷ [])
    ∙ ap (λ b. b || list_any asks_close (told_as item ∷ [])) rest ∙ ap (λ b. b || false) none

-- a row without a `close` tells none
none_told : (items : List TrailItem) → filter closes (lines_in items) ≡ [] → list_any asks_close (past_of items) ≡ false
unfolding asks_close
none_told [] h = refl
none_told (line bytes ∷ items) h =
    let here = left_out (closes (line_form bytes)) (line_form bytes) (filter closes (lines_in items)) h in
    one_before (line bytes) items (none_told items here.1) here.0
none_told (long_line ∷ items) h =
    let here = left_out (closes long_form) long_form (filter closes (lines_in items)) h in
    one_before long_line items (none_told items here.1) here.0
none_told (fired cpu place ∷ items) h =
    let rest : filter closes (lines_in items) ≡ [] = sym (ap (λ l. filter closes (map line_form_of l)) (no_line cpu place items)) ∙ h in
    one_before (fired cpu place) items (none_told items rest) refl

module _ (account : Account) (contents : Contents) where
  firing_is_no_close : (life : List Item) (found : Option Firing) → list_any is_closing life ≡ false
      → list_any is_closing (option_to_list (option_map seen_item found) ++ life) ≡ false
  firing_is_no_close life None h = h
  firing_is_no_close life (Some firing) h = h

  -- a past that tells no `close` is that of an open session, and so is each before it
  open_past : (past : List WrittenItem) → list_any asks_close past ≡ false
      → EndsAtClose account contents past × (is_closed account contents past ≡ false)
  unfolding asks_close
  open_past [] h = (tt, refl)
  open_past (line_asked bytes reply ∷ past) h =
      let parts = both_false (closes (line_form bytes)) (list_any asks_close past) h in
      let before = open_past past parts.1 in
      ((before.0, before.1), ap (λ b. b || is_closed account contents past) parts.0 ∙ before.1)
  open_past (long_asked reply ∷ past) h =
      let parts = both_false (closes long_form) (list_any asks_close past) h in
      let before = open_past past parts.1 in
      ((before.0, before.1), ap (λ b. b || is_closed account contents past) parts.0 ∙ before.1)
  open_past (fired_at cpu place ∷ past) h =
      let before = open_past past h in
      ((before.0, tt), firing_is_no_close (life_of_trail account contents past) (firing_at contents.scripts cpu place) before.1)

  -- what was served is a legal trail whose lines end at an accepted `close`
  abbrev pub IsTaken : List TrailItem → Type 0
  IsTaken items = IsLegalRow account contents items × EndsAtClose account contents (past_of items)

  served_ends : (lines : List LineForm) (items : List TrailItem) (text : List ℕ) → IsServed account contents lines items text → IsTaken items
  served_ends lines items text s = (s.legal, (open_past (past_of items) (none_told items s.unclosed)).0)

  one_more : (past : List WrittenItem) (item : TrailItem) → is_closed account contents past ≡ false
      → IsNoLineAfterClose account contents past (told_as item)
  one_more past (line bytes) h = h
  one_more past long_line h = h
  one_more past (fired cpu place) h = tt

  closed_ends : (lines : List LineForm) (items : List TrailItem) (text : List ℕ) → IsClosed account contents lines items text → IsTaken items
  closed_ends lines items text s =
      let before = open_past (past_of s.earlier) (none_told s.earlier s.served.unclosed) in
      let is : past_of items ≡ told_as s.item ∷ past_of s.earlier = ap past_of s.items_are ∙ past_of_last s.earlier s.item in
      (s.legal, subst (EndsAtClose account contents) (sym is) (before.0, one_more (past_of s.earlier) s.item before.1))

  past_quota_ends : (lines : List LineForm) (items : List TrailItem) (text : List ℕ) → IsPastQuota account contents lines items text
      → IsTaken items
  past_quota_ends lines items text s = served_ends s.before items s.told s.served

  cut_off_ends : (lines : List LineForm) (items : List TrailItem) (text : List ℕ) → IsCutOff account contents lines items text → IsTaken items
  cut_off_ends lines items text s = by_due s.whole s.due where
    by_due : (whole : List ℕ)
        → IsServed account contents lines items whole ⊎ IsClosed account contents lines items whole ⊎ IsPastQuota account contents lines items whole
        → IsTaken items
    by_due whole (inl served) = served_ends lines items whole served
    by_due whole (inr (inl closed)) = closed_ends lines items whole closed
    by_due whole (inr (inr past_quota)) = past_quota_ends lines items whole past_quota

  pub has_served_ends : (how : Ended) (lines : List LineForm) (items : List TrailItem) (text : List ℕ)
      → HasServed account contents how lines items text → IsTaken items
  has_served_ends ended.EndOfInput lines items text h = served_ends lines items text h
  has_served_ends ended.ReadFault lines items text h = served_ends lines items text h
  has_served_ends ended.Memory lines items text h = absurd h
  has_served_ends ended.Closed lines items text h = closed_ends h.0 items text h.3
  has_served_ends ended.Quota lines items text h = past_quota_ends h.0 items text h.3
  has_served_ends ended.WriteFault lines items text h = cut_off_ends h.0 items text h.3
