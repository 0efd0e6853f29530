-- The probes that texts spell: each text one, and each provider one class.
use Rattle.std.proofs.Common.{◌≡◌, ◌+◌, ◌<◌, ℕ, zero, suc, [], ◌∷◌, ◌++◌, List, Some, IsSomeAnd, slice_get, get_or}
use Rattle.std.proofs.Common.{length, codes, lit<, refl, sym, ap, ◌∙◌, subst, arith, add-zero}
use Rattle.std.proofs.Math.Logic.{∥∥₁_prop}
use mathlib.Core.HLevel.{is_prop→PathP}
use Rattle.dt_names.specs.Tuple.{SpellsTuple}
use Rattle.dt_names.specs.declared.tuple.ProbeTuple.{ProbeTuple}
use Rattle.dt_cred.specs.Class.{IsClassOf, NamesProcess, number_of}
use Rattle.dt_cred.specs.declared.class.Class.{Class}
use Rattle.dt_cred.specs.declared.class.Class.TheVariants.{Dtrace, Syscall, Profile, Pid, Other}
use Rattle.dt_cred.specs.declared.probe.Probe.{Probe}
use Rattle.dt_machine.specs.Rows.{AreProbes}

-- a text spells one tuple
same_parts : (a b c d a' b' c' d' : List ℕ) → a ∷ b ∷ c ∷ d ∷ [] ≡ a' ∷ b' ∷ c' ∷ d' ∷ []
    → ◌≡◌ {A = ProbeTuple} (record { provider = a; «module» = b; function = c; name = d })
    (record { provider = a'; «module» = b'; function = c'; name = d' })
same_parts a b c d a' b' c' d' e =
    let p : a ≡ a' = cc in
    let q : b ≡ b' = cc in
    let r : c ≡ c' = cc in
    let s : d ≡ d' = cc in
    λ i. record { provider = p i; «module» = q i; function = r i; name = s i }

pub spells_one : (text : List ℕ) (a b : ProbeTuple) → SpellsTuple text a → SpellsTuple text b → a ≡ b
spells_one text a b s t = same_parts _ _ _ _ _ _ _ _ (sym s.spelled ∙ t.spelled)

pub length-probes : (id : ℕ) (texts : List (List ℕ)) (probes : List Probe) → AreProbes id texts probes
    → length texts ≡ length probes
length-probes id [] [] are = refl
length-probes id [] (p ∷ ps) are = absurd are
length-probes id (t ∷ ts) [] are = absurd are
length-probes id (t ∷ ts) (p ∷ ps) are = ap suc (length-probes (id + 1) ts ps are.3)

-- the text of a probe that is there
pub record SpelledAt (id : ℕ) (texts : List (List ℕ)) (k : ℕ) (probe : Probe) : Type 0 where
  pub text : List ℕ
  pub there : slice_get texts k ≡ Some text
  pub spelled : SpellsTuple text probe.tuple
  pub number : probe.id ≡ id + k
  pub class : IsClassOf probe.tuple.provider probe.class

same_some : {A : Type 0} (x y : A) → Some x ≡ Some y → x ≡ y
same_some x y e = cc

pub spelled_at : (id : ℕ) (texts : List (List ℕ)) (probes : List Probe) (k : ℕ) (probe : Probe)
    → AreProbes id texts probes → slice_get probes k ≡ Some probe → SpelledAt id texts k probe
spelled_at id [] [] k probe are there = absurd (cc)
spelled_at id [] (p ∷ ps) k probe are there = absurd are
spelled_at id (t ∷ ts) [] k probe are there = absurd are
spelled_at id (t ∷ ts) (p ∷ ps) zero probe are there =
    let e = same_some p probe there in
    let S : Probe → Type 0 = λ q. SpellsTuple t q.tuple in
    let C : Probe → Type 0 = λ q. IsClassOf q.tuple.provider q.class in
    record {
      text = t;
      there = refl;
      spelled = subst S e are.1;
      class = subst C e are.2;
      number =
          sym (ap (λ (q : Probe). q.id) e) ∙ are.0 ∙ sym (add-zero id);
    }
spelled_at id (t ∷ ts) (p ∷ ps) (suc k) probe are there =
    let more = spelled_at (id + 1) ts ps k probe are.3 there in
    record {
      text = more.text;
      there = more.there;
      spelled = more.spelled;
      class = more.class;
      number = more.number
          ∙ omega arith;
    }

-- a provider names one process
named_number : (d e : List ℕ) → codes "pid" ++ d ≡ codes "pid" ++ e → number_of d ≡ number_of e
named_number d e h = let same : d ≡ e = cc in ap number_of same

pub names_one : (provider : List ℕ) (a b : ℕ) → NamesProcess provider a → NamesProcess provider b → a ≡ b
names_one provider a b n m = sym n.stands_for ∙ named_number n.digits m.digits (sym n.spelled ∙ m.spelled)
    ∙ m.stands_for

pub apart : (a b : ℕ) → a ≡ b → b < a → ⊥
apart a b e h = omega arith

pub no_pid_syscall : (d : List ℕ) → codes "syscall" ≡ codes "pid" ++ d → ⊥
no_pid_syscall d e = apart 115 112 (ap (λ (bytes : List ℕ). get_or bytes 0 0) e) (lit< tt)

pub no_pid_profile : (d : List ℕ) → codes "profile" ≡ codes "pid" ++ d → ⊥
no_pid_profile d e = apart 114 105 (ap (λ (bytes : List ℕ). get_or bytes 1 0) e) (lit< tt)

pub no_pid_dtrace : (d : List ℕ) → codes "pid" ++ d ≡ codes "dtrace" → ⊥
no_pid_dtrace d e = apart 112 100 (ap (λ (bytes : List ℕ). get_or bytes 0 0) e) (lit< tt)

pub first_probe : (begin end : List ℕ) (texts : List (List ℕ)) (probes : List Probe)
    → AreProbes 1 (begin ∷ end ∷ texts) probes → IsSomeAnd (slice_get probes 0) (λ p. SpellsTuple begin p.tuple)
first_probe begin end texts [] are = absurd are
first_probe begin end texts (p ∷ ps) are = are.1

pub second_probe : (begin end : List ℕ) (texts : List (List ℕ)) (probes : List Probe)
    → AreProbes 1 (begin ∷ end ∷ texts) probes → IsSomeAnd (slice_get probes 1) (λ p. SpellsTuple end p.tuple)
second_probe begin end texts [] are = absurd are
second_probe begin end texts (p ∷ []) are = absurd are.3
second_probe begin end texts (p ∷ q ∷ ps) are = are.3.1

-- a provider has one class
no_two : {C : Type 0} (a b : List ℕ) (provider : List ℕ) → provider ≡ a → provider ≡ b → (a ≡ b → ⊥) → C
no_two a b provider p q differ = absurd (differ (sym p ∙ q))

dtrace_syscall : codes "dtrace" ≡ codes "syscall" → ⊥
dtrace_syscall e = cc

dtrace_profile : codes "dtrace" ≡ codes "profile" → ⊥
dtrace_profile e = cc

syscall_profile : codes "syscall" ≡ codes "profile" → ⊥
syscall_profile e = apart 115 112 (ap (λ (bytes : List ℕ). get_or bytes 0 0) e) (lit< tt)

class_one : (provider : List ℕ) (a b : Class) → IsClassOf provider a → IsClassOf provider b → a ≡ b
class_one provider Dtrace Dtrace p q = refl
class_one provider Dtrace Syscall p q = absurd (dtrace_syscall (sym p ∙ q))
class_one provider Dtrace Profile p q = absurd (dtrace_profile (sym p ∙ q))
class_one provider Dtrace (Pid n) p q = absurd (no_pid_dtrace q.digits (sym q.spelled ∙ p))
class_one provider Dtrace Other p q = absurd (q.0 p)
class_one provider Syscall Dtrace p q = absurd (dtrace_syscall (sym q ∙ p))
class_one provider Syscall Syscall p q = refl
class_one provider Syscall Profile p q = absurd (syscall_profile (sym p ∙ q))
class_one provider Syscall (Pid n) p q = absurd (no_pid_syscall q.digits (sym p ∙ q.spelled))
class_one provider Syscall Other p q = absurd (q.1 p)
class_one provider Profile Dtrace p q = absurd (dtrace_profile (sym q ∙ p))
class_one provider Profile Syscall p q = absurd (syscall_profile (sym q ∙ p))
class_one provider Profile Profile p q = refl
class_one provider Profile (Pid n) p q = absurd (no_pid_profile q.digits (sym p ∙ q.spelled))
class_one provider Profile Other p q = absurd (q.2 p)
class_one provider (Pid m) Dtrace p q = absurd (no_pid_dtrace p.digits (sym p.spelled ∙ q))
class_one provider (Pid m) Syscall p q = absurd (no_pid_syscall p.digits (sym q ∙ p.spelled))
class_one provider (Pid m) Profile p q = absurd (no_pid_profile p.digits (sym q ∙ p.spelled))
class_one provider (Pid m) (Pid n) p q = ap Pid (names_one provider m n p q)
class_one provider (Pid m) Other p q = absurd (q.3 m p)
class_one provider Other Dtrace p q = absurd (p.0 q)
class_one provider Other Syscall p q = absurd (p.1 q)
class_one provider Other Profile p q = absurd (p.2 q)
class_one provider Other (Pid n) p q = absurd (p.3 n q)
class_one provider Other Other p q = refl

-- a probe is its number, its names and its class
probe_path : (p q : Probe) → p.id ≡ q.id → p.tuple ≡ q.tuple → p.class ≡ q.class → p ≡ q
probe_path p q e f g = λ i. record {
  id = e i;
  tuple = f i;
  class = g i;
  classed =
      is_prop→PathP (λ j. ∥ IsClassOf (f j).provider (g j) ∥₁) (λ j. ∥∥₁_prop) p.classed q.classed i;
}

pub probes_one : (id : ℕ) (texts : List (List ℕ)) (ps qs : List Probe) → AreProbes id texts ps
    → AreProbes id texts qs → ps ≡ qs
probes_one id [] [] [] a b = refl
probes_one id [] [] (q ∷ qs) a b = absurd b
probes_one id [] (p ∷ ps) qs a b = absurd a
probes_one id (t ∷ ts) [] qs a b = absurd a
probes_one id (t ∷ ts) (p ∷ ps) [] a b = absurd b
probes_one id (t ∷ ts) (p ∷ ps) (q ∷ qs) a b =
    let tuple = spells_one t p.tuple q.tuple a.1 b.1 in
    let C : ProbeTuple → Type 0 = λ u. IsClassOf u.provider q.class in
    let class = class_one p.tuple.provider p.class q.class a.2 (subst C (sym tuple) b.2) in
    let head = probe_path p q (a.0 ∙ sym b.0) tuple class in
    let tail = probes_one (id + 1) ts ps qs a.3 b.3 in
    λ i. head i ∷ tail i
