-- Writes that are in order, as they and the trail go on.
use Rattle.std.proofs.Common.{◌≡◌, ◌≢◌, ℕ, Bool, true, false, List, [], ◌∷◌, ◌++◌, refl, sym, ap, ◌∙◌, subst, ⊎_elim}
use mathlib.Core.List.{IsPrefix}
use Rattle.dt_chain.specs.Writes.{Write, published}
use Rattle.dt_cred.specs.declared.account.Account.{Account}
use Rattle.dt_ecb.specs.Ecbs.{of_probe}
use Rattle.dt_legal.specs.Rows.{AreOfEcbs, IsLegalRow, life_of_row}
use Rattle.dt_life.specs.Life.{ecbs, is_stopped, phase}
use Rattle.dt_machine.specs.Interest.{Names}
use Rattle.dt_machine.specs.Registry.{Contents}
use Rattle.dt_meeting.specs.Order.{IsInOrder, IsOfOthers}
use Rattle.dt_meeting.specs.Stages.{named, past, never, stage}
use Rattle.dt_meeting.specs.laws.Enabling.{names_still}
use Rattle.dt_meeting.specs.laws.Lasting.{stopped_still}
use Rattle.dt_meeting.specs.laws.Staging.{front_of, last_of, named_by_last, never_before, prefix_of_last, prefix_trans, unnamed_by_last}
use Rattle.dt_trail.specs.Items.{StartsWith, TrailItem}

same_probes : (some other : List Bool) → named some ≡ named other → some ≡ other
same_probes some other e = cc e

same_account : (seat other life another : ℕ) (some by : Account) (probes found : List Bool)
    → published seat life some probes ≡ published other another by found → some ≡ by
same_account seat other life another some by probes found e = cc e

module _ (account : Account) (contents : Contents) where
  -- the life wasn't published yet
  pub in_order_new : (life : ℕ) (writes : List Write) (trail : List TrailItem) → stage life writes ≡ never
      → IsInOrder account contents life writes trail
  in_order_new life writes trail is = record {
    its_account = λ before seat by probes b.
        let none = never_before life (before ++ published seat life by probes ∷ []) writes b is in
        ⊎_elim (λ (t : stage life (before ++ published seat life by probes ∷ []) ≡ named probes).
        absurd (let bad : never ≡ named probes = sym none ∙ t in cc bad))
        (λ (t : (stage life before ≡ past) × (stage life (before ++ published seat life by probes ∷ []) ≡ past)).
        absurd (let bad : never ≡ past = sym none ∙ t.1 in cc bad))
        (named_by_last life before seat by probes);
    growing = λ shorter longer fewer more s l es el id n.
        let bad : never ≡ named more = sym (never_before life longer writes l is) ∙ el in absurd (cc bad);
    enabled = λ beginning probes b e id n none.
        let bad : never ≡ named probes = sym (never_before life beginning writes b is) ∙ e in cc bad;
    once = λ before write b e.
        let none = never_before life before writes (prefix_trans before (before ++ write ∷ []) writes (write ∷ [], refl) b) is in
        absurd (let bad : never ≡ past = sym none ∙ e in cc bad);
    ended = λ e. absurd (let bad : never ≡ past = sym is ∙ e in cc bad);
  }

  -- the life, which hasn't stopped, is published with exactly the probes of its ECBs
  pub in_order_published : (life : ℕ) (writes : List Write) (trail : List TrailItem) (seat : ℕ) (probes : List Bool)
      → AreOfEcbs account contents trail probes → is_stopped (phase account contents.registry (life_of_row account contents trail)) ≡ false
      → IsInOrder account contents life writes trail
      → IsInOrder account contents life (writes ++ published seat life account probes ∷ []) trail
  in_order_published life writes trail seat probes exact going h = record {
    its_account = λ before other by found b.
        ⊎_elim (λ (t : IsPrefix (before ++ published other life by found ∷ []) writes). h.its_account before other by found t)
        (λ (t : before ++ published other life by found ∷ [] ≡ all).
        same_account other seat life life by account found probes (last_of before writes (published other life by found) (published seat life account probes) t))
        (prefix_of_last (before ++ published other life by found ∷ []) writes (published seat life account probes) b);
    growing = λ shorter longer fewer more s l es el id n.
        ⊎_elim (λ (t : IsPrefix longer writes). h.growing shorter longer fewer more s t es el id n)
        (λ (t : longer ≡ all).
        subst (λ (ps : List Bool). Names ps id) (probes_are more (ap (stage life) (sym t) ∙ el))
        ((exact id).1 (enabled shorter fewer (subst (IsPrefix shorter) t s) es id n)))
        (prefix_of_last longer writes (published seat life account probes) l);
    enabled = enabled;
    once = λ before write b e.
        ⊎_elim (λ (t : IsPrefix (before ++ write ∷ []) writes). h.once before write t e)
        (λ (t : before ++ write ∷ [] ≡ all).
        absurd (still (ap (stage life) (sym (front_of before writes write (published seat life account probes) t)) ∙ e)))
        (prefix_of_last (before ++ write ∷ []) writes (published seat life account probes) b);
    ended = λ e.
        ⊎_elim (λ (t : stage life all ≡ named probes). absurd (let bad : named probes ≡ past = sym t ∙ e in cc bad))
        (λ (t : (stage life writes ≡ past) × (stage life all ≡ past)). h.ended t.0)
        (named_by_last life writes seat account probes);
  }
    where
      all : List Write
      all = writes ++ published seat life account probes ∷ []

      still : stage life writes ≢ past
      still e = let bad : false ≡ true = sym going ∙ h.ended e in cc bad

      probes_are : (found : List Bool) → stage life all ≡ named found → probes ≡ found
      probes_are found e =
          ⊎_elim (λ (t : stage life all ≡ named probes). same_probes probes found (sym t ∙ e))
          (λ (t : (stage life writes ≡ past) × (stage life all ≡ past)). absurd (let bad : past ≡ named found = sym t.1 ∙ e in cc bad))
          (named_by_last life writes seat account probes)

      enabled : (beginning : List Write) (found : List Bool) → IsPrefix beginning all → stage life beginning ≡ named found
          → (id : ℕ) → Names found id → of_probe id (ecbs account contents.registry (life_of_row account contents trail)) ≢ []
      enabled beginning found b e id n =
          ⊎_elim (λ (t : IsPrefix beginning writes). h.enabled beginning found t e id n)
          (λ (t : beginning ≡ all).
          (exact id).0 (subst (λ (ps : List Bool). Names ps id) (sym (probes_are found (ap (stage life) (sym t) ∙ e))) n))
          (prefix_of_last beginning writes (published seat life account probes) b)

  -- another write comes, as the life has stopped
  pub in_order_ended : (life : ℕ) (writes : List Write) (trail : List TrailItem) (write : Write) → IsOfOthers life write
      → is_stopped (phase account contents.registry (life_of_row account contents trail)) ≡ true → IsInOrder account contents life writes trail
      → IsInOrder account contents life (writes ++ write ∷ []) trail
  in_order_ended life writes trail write others off h = record {
    its_account = λ before other by found b.
        ⊎_elim (λ (t : IsPrefix (before ++ published other life by found ∷ []) writes). h.its_account before other by found t)
        (λ (t : before ++ published other life by found ∷ [] ≡ writes ++ write ∷ []).
        absurd (subst (IsOfOthers life) (sym (last_of before writes (published other life by found) write t)) others refl))
        (prefix_of_last (before ++ published other life by found ∷ []) writes write b);
    growing = λ shorter longer fewer more s l es el id n.
        ⊎_elim (λ (t : IsPrefix longer writes). h.growing shorter longer fewer more s t es el id n)
        (λ (t : longer ≡ writes ++ write ∷ []). absurd (unnamed_by_last life writes write more others (ap (stage life) (sym t) ∙ el)))
        (prefix_of_last longer writes write l);
    enabled = λ beginning probes b e id n.
        ⊎_elim (λ (t : IsPrefix beginning writes). h.enabled beginning probes t e id n)
        (λ (t : beginning ≡ writes ++ write ∷ []). absurd (unnamed_by_last life writes write probes others (ap (stage life) (sym t) ∙ e)))
        (prefix_of_last beginning writes write b);
    once = λ before last b e.
        ⊎_elim (λ (t : IsPrefix (before ++ last ∷ []) writes). h.once before last t e)
        (λ (t : before ++ last ∷ [] ≡ writes ++ write ∷ []). subst (IsOfOthers life) (sym (last_of before writes last write t)) others)
        (prefix_of_last (before ++ last ∷ []) writes write b);
    ended = λ e. off;
  }

  -- the trail goes on
  pub in_order_trail : (life : ℕ) (writes : List Write) (trail more : List TrailItem) → StartsWith more trail → IsLegalRow account contents more
      → IsInOrder account contents life writes trail → IsInOrder account contents life writes more
  in_order_trail life writes trail more begins legal h = record {
    its_account = h.its_account;
    growing = h.growing;
    enabled = λ beginning probes b e id n.
        names_still account contents more trail id begins legal (h.enabled beginning probes b e id n);
    once = h.once;
    ended = λ e. stopped_still account contents more trail begins legal (h.ended e);
  }
