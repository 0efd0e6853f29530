-- What a consumer and its trail become.
use Rattle.std.proofs.Common.{◌≡◌, ◌≤◌, ◌<◌, ◌+◌, ℕ, true, false, List, [], ◌∷◌, ◌++◌, Result, Some, refl, sym, ◌∙◌, subst, arith, inl, inr}
use Rattle.std.specs.List.{AllByRecursion}
use Rattle.std.proofs.lemmas.Bool.{and_parts}
use Rattle.dt_cred.specs.declared.account.Account.{Account}
use Rattle.dt_cred.specs.declared.firing.Firing.{Firing}
use Rattle.dt_consumer.specs.StandsFor.{StandsFor}
use Rattle.dt_consumer.specs.declared.consumer.Consumer.{Consumer}
use Rattle.dt_legal.specs.Rows.{AreBelowPlace, IsAtLowerPlace, Suffice, line_form_of, life_of_row, set_up_of}
use Rattle.dt_legal.specs.laws.Following.{line_follows, firing_follows}
use Rattle.dt_legal.specs.laws.Room.{Begins, suffices_after_line, suffices_after_firing}
use Rattle.dt_life.specs.Acceptance.{after_line}
use Rattle.dt_life.specs.Ask.{Ask}
use Rattle.dt_life.specs.declared.refusal.Refusal.{Refusal}
use Rattle.dt_life.specs.Life.{Item, SetUp, asked, is_inactive, is_over, set_up}
use Rattle.dt_life.specs.Life.{fired as fired_item}
use Rattle.dt_life.specs.Sees.{Sees}
use Rattle.dt_life.specs.declared.phase.Phase.{Phase}
use Rattle.dt_life.specs.declared.phase.Phase.TheVariants.{Inactive, Active, Stopped}
use Rattle.dt_machine.specs.Registry.{Contents, firing_at}
use Rattle.dt_proto.specs.Line.{ask_in}
use Rattle.dt_trail.specs.Items.{TrailItem, fired, own, whose}
use Rattle.dt_trail.specs.Known.{Known, known_row}
use Rattle.dt_trail.specs.Limits.{block_cells, longest, widenings}
use Rattle.dt_proto.specs.Asked.{form_asked}
use Rattle.dt_proto.specs.declared.asked.Asked.{Asked}
use Rattle.dt_proto.specs.declared.asked.Asked.TheVariants as lines
use Rattle.dt_legal.specs.Rows.{IsGoAfter}
use Rattle.dt_seat.specs.Trailed.{item_of_line, IsWideEnough, IsTrailed, IsWide}

inactive_from : (p : Phase) → is_inactive p ≡ true → p ≡ Inactive
inactive_from Inactive h = refl
inactive_from Active h = cc
inactive_from (Stopped cause) h = cc

-- a line within the quota is the newest of the life
counted : (life : List Item) (said : Result Ask Refusal) → is_over life ≡ false → after_line life said ≡ asked said ∷ life
counted life said over = rw over refl

-- the line of an item is the one that was asked
pub same_form : (asked : Asked) → line_form_of (item_of_line asked) ≡ form_asked asked
same_form (lines.Line bytes) = refl
same_form lines.Long = refl

pub line_is_mine : (asked : Asked) → whose (item_of_line asked) ≡ 0
line_is_mine (lines.Line bytes) = refl
line_is_mine lines.Long = refl

-- a processor's firings in the trail are those that its note knows
pub below_met : (cpu place number : ℕ) (row knows : List TrailItem) → number ≡ cpu + 1 → own number row ≡ own number knows
    → AreBelowPlace cpu place knows → AreBelowPlace cpu place row
below_met cpu place number row knows e same h =
    let mine : own (cpu + 1) row ≡ own (cpu + 1) knows = rw (← e) same in
    subst (AllByRecursion (IsAtLowerPlace place)) (sym mine) h

more_suffice : (cells more : ℕ) (s : SetUp) → cells ≤ more → Suffice cells s → Suffice more s
more_suffice cells more s le h = elim h [
  | inl wide ↦ inl (omega (arith, wide, le))
  | inr idle ↦ inr (idle.0, idle.1, omega (arith, idle, le))
]

-- a trail that is shorter than the longest can be widened by a block
pub few_widened : (trail : Known Account) → IsWide trail → trail.cells < longest → trail.widened < widenings
few_widened trail h short = omega (arith, h.blocks, short)

-- the account of a trail is its row's
pub trailed_own : (contents : Contents) (account : Account) (trail : Known Account) (consumer : Consumer)
    → IsTrailed contents account trail consumer → IsTrailed contents trail.row.account trail consumer
trailed_own contents account trail consumer h = subst (λ (a : Account). IsTrailed contents a trail consumer) (sym h.whose_is) h

pub trailed_as : (contents : Contents) (account own : Account) (trail : Known Account) (consumer : Consumer)
    → own ≡ account → IsTrailed contents own trail consumer → IsTrailed contents account trail consumer
trailed_as contents account own trail consumer same h = subst (λ (a : Account). IsTrailed contents a trail consumer) same h

module _ (contents : Contents) (account : Account) (trail : Known Account) (consumer : Consumer)
    (h : IsTrailed contents account trail consumer) where
  abbrev life : List Item
  life = life_of_row account contents trail.knows

  go_from : (item : TrailItem) → is_over life ≡ false
      → Begins account contents.registry (set_up_of account contents trail.knows) (ask_in (line_form_of item))
      → IsGoAfter account contents trail.knows item
  go_from item over begins =
      let parts = and_parts _ _ begins.0 in
      (over, inactive_from _ parts.0, parts.1, begins.1)

  pub trailed_line : (new : Consumer) (item : TrailItem)
      → StandsFor account contents.registry new (after_line life (ask_in (line_form_of item)))
      → is_over life ≡ false → whose item ≡ 0
      → (IsGoAfter account contents trail.knows item → IsWideEnough contents account trail)
      → IsTrailed contents account (known_row trail.row (trail.knows ++ item ∷ []) trail.cells trail.widened) new
  trailed_line new item stands over mine room =
      let follows = line_follows account contents trail.knows item mine h.legal over in
      let whole : life_of_row account contents (trail.knows ++ item ∷ []) ≡ asked (ask_in (line_form_of item)) ∷ life =
      follows.1 ∙ counted life (ask_in (line_form_of item)) over in
      record {
        whose_is = h.whose_is;
        stands = subst (StandsFor account contents.registry new) (sym follows.1) stands;
        legal = follows.0;
        wide = record { blocks = h.wide.blocks; few = h.wide.few };
        suffice = subst (λ l. Suffice trail.cells (set_up account contents.registry l)) (sym whole)
            (suffices_after_line account contents.registry (set_up_of account contents trail.knows) (ask_in (line_form_of item)) trail.cells
            h.suffice (λ begins. room (go_from item over begins)));
      }

  pub trailed_wider : trail.cells < longest
      → IsTrailed contents account (known_row trail.row trail.knows (trail.cells + block_cells) (trail.widened + 1)) consumer
  trailed_wider short =
      let few = few_widened trail h.wide short in
      record {
        whose_is = h.whose_is;
        stands = h.stands;
        legal = h.legal;
        wide = record { blocks = omega (arith, h.wide.blocks); few = omega (arith, h.wide.blocks, few) };
        suffice = more_suffice trail.cells (trail.cells + block_cells) (set_up_of account contents trail.knows) (omega arith) h.suffice;
      }

  pub trailed_over : (new : Consumer) (item : TrailItem)
      → StandsFor account contents.registry new (after_line life (ask_in (line_form_of item)))
      → is_over life ≡ true
      → IsTrailed contents account trail new
  trailed_over new item stands over = record {
    whose_is = h.whose_is;
    stands = subst (StandsFor account contents.registry new) (rw over refl) stands;
    legal = h.legal;
    wide = h.wide;
    suffice = h.suffice;
  }

  pub trailed_firing : (new : Consumer) (firing : Firing)
      → StandsFor account contents.registry new (fired_item firing ∷ life)
      → firing_at contents.scripts firing.cpu firing.place ≡ Some firing
      → Sees account contents.registry life firing → AreBelowPlace firing.cpu firing.place trail.knows
      → IsTrailed contents account
      (known_row trail.row (trail.knows ++ fired firing.cpu firing.place ∷ []) trail.cells trail.widened) new
  trailed_firing new firing stands found sees below =
      let follows = firing_follows account contents trail.knows firing.cpu firing.place firing h.legal found sees below in
      record {
        whose_is = h.whose_is;
        stands = subst (StandsFor account contents.registry new) (sym follows.1) stands;
        legal = follows.0;
        wide = record { blocks = h.wide.blocks; few = h.wide.few };
        suffice = subst (λ l. Suffice trail.cells (set_up account contents.registry l)) (sym follows.1)
            (suffices_after_firing account contents.registry (set_up_of account contents trail.knows) firing trail.cells h.suffice);
      }
