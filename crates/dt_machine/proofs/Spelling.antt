-- The probes that texts spell.
use Rattle.std.proofs.Common.{◌≡◌, ◌≢◌, ◌+◌, ◌≤◌, ◌==◌, ◌&&◌, ℕ, [], ◌∷◌, ◌++◌, Bool, true, false}
use Rattle.std.proofs.Common.{List, Option, Some, None, IsSome, IfNone, All, drop, slice_get}
use Rattle.std.proofs.Common.{length, codes, lit≤, refl, sym, ap, ◌∙◌, subst, arith, add-zero}
use Rattle.std.specs.Prelude.{find}
use Rattle.std.specs.List.{AllByRecursion}
use Rattle.std.proofs.lemmas.List.Elements.{All-cons, All-head, All-tail, All-from_recursion}
use Rattle.std.specs.Str.{bytes_eq}
use Rattle.std.specs.Cmp.Lexicographic.{same_text}
use Rattle.std.proofs.lemmas.Slice.Eq.{bytes_eq-Decides}
use Rattle.std.proofs.lemmas.Bool.{false≢true}
use Rattle.std.proofs.lemmas.Option.{slice_get_within, get_or_from_slice_get}
use Rattle.dt_names.specs.Name.{IsName, IsNameByte}
use Rattle.dt_names.specs.Tuple.{SpellsTuple}
use Rattle.dt_names.specs.declared.tuple.ProbeTuple.{ProbeTuple}
use Rattle.dt_cred.specs.Class.{IsClassOf, NamesProcess}
use Rattle.dt_cred.specs.declared.account.Process.{Process}
use Rattle.dt_cred.specs.declared.class.Class.{Class}
use Rattle.dt_cred.specs.declared.class.Class.TheVariants.{Dtrace, Syscall, Profile, Pid, Other}
use Rattle.dt_cred.specs.declared.probe.Probe.{Probe}
use Rattle.dt_machine.specs.Rows.{AreProbes}
use Rattle.dt_machine.specs.Sections.{IsTraced, eq_tuples}
use Rattle.dt_machine.specs.laws.Spelling.{spells_one, names_one, no_pid_syscall, no_pid_profile, no_pid_dtrace}
use Rattle.dt_names.specs.Limits.{name_max}

pub probes_push : (id : ℕ) (texts : List (List ℕ)) (probes : List Probe) (text : List ℕ) (probe : Probe)
    → AreProbes id texts probes → probe.id ≡ id + length probes → SpellsTuple text probe.tuple
    → IsClassOf probe.tuple.provider probe.class → AreProbes id (texts ++ text ∷ []) (probes ++ probe ∷ [])
probes_push id [] [] text probe are number spelled class = (number ∙ add-zero id, spelled, class, tt)
probes_push id [] (p ∷ ps) text probe are number spelled class = absurd are
probes_push id (t ∷ ts) [] text probe are number spelled class = absurd are
probes_push id (t ∷ ts) (p ∷ ps) text probe are number spelled class =
    (are.0, are.1, are.2, probes_push (id + 1) ts ps text probe are.3 (number ∙ omega arith) spelled class)

pub own_dropped : (begin end : List ℕ) (texts : List (List ℕ)) (probes : List Probe)
    → AreProbes 1 (begin ∷ end ∷ texts) probes → AreProbes 3 texts (drop 2 probes)
own_dropped begin end texts [] are = absurd are
own_dropped begin end texts (p ∷ []) are = absurd are.3
own_dropped begin end texts (p ∷ q ∷ ps) are = are.3.3

-- a tuple that no probe has is spelled by no text
pub new_spelling : (id : ℕ) (texts : List (List ℕ)) (probes : List Probe) (tuple : ProbeTuple)
    → AreProbes id texts probes → All (λ (p : Probe). p.tuple ≢ tuple) probes
    → All (λ text. SpellsTuple text tuple → ⊥) texts
new_spelling id [] probes tuple are new = λ k d inside. absurd (omega arith)
new_spelling id (t ∷ ts) [] tuple are new = absurd are
new_spelling id (t ∷ ts) (p ∷ ps) tuple are new =
    All-cons (λ text. SpellsTuple text tuple → ⊥) t ts
    (λ spelled. All-head (λ (q : Probe). q.tuple ≢ tuple) p ps new (spells_one t p.tuple tuple are.1 spelled))
    (new_spelling (id + 1) ts ps tuple are.3 (All-tail (λ (q : Probe). q.tuple ≢ tuple) p ps new))

-- what the class of a provider tells of the process that it names
pub traced_by_class : (processes : List Process) (provider : List ℕ) (class : Class) → IsClassOf provider class
    → IsTraced processes class → (provider ≢ codes "dtrace")
    × ((pid : ℕ) → NamesProcess provider pid → IsSome (find (λ process. process.pid == pid) processes))
traced_by_class processes provider Dtrace is traced = absurd traced
traced_by_class processes provider Syscall is traced =
    (λ e. let h = sym is ∙ e in cc, λ pid n. absurd (no_pid_syscall n.digits (sym is ∙ n.spelled)))
traced_by_class processes provider Profile is traced =
    (λ e. let h = sym is ∙ e in cc, λ pid n. absurd (no_pid_profile n.digits (sym is ∙ n.spelled)))
traced_by_class processes provider (Pid pid) is traced = (
  λ e. no_pid_dtrace is.digits (sym is.spelled ∙ e),
  λ other n. let P : ℕ → Type 0 = λ q. IsSome (find (λ process. process.pid == q) processes) in subst P
      (names_one provider pid other is n) traced,
)
traced_by_class processes provider Other is traced = (is.0, λ pid n. absurd (is.3 pid n))

pub class_traced : (processes : List Process) (provider : List ℕ) (class : Class) → IsClassOf provider class
    → provider ≢ codes "dtrace" → ((pid : ℕ) → NamesProcess provider pid
    → IsSome (find (λ process. process.pid == pid) processes)) → IsTraced processes class
class_traced processes provider Dtrace is given traced = given is
class_traced processes provider Syscall is given traced = tt
class_traced processes provider Profile is given traced = tt
class_traced processes provider (Pid pid) is given traced = traced pid is
class_traced processes provider Other is given traced = tt

-- BEGIN and END
abbrev IsLetter : ℕ → Type 0
IsLetter byte = (65 ≤ byte) × (byte ≤ 122)

letter_in_name : (byte : ℕ) → IsLetter byte → IsNameByte byte
letter_in_name byte h = record {
  above_blanks = omega arith;
  below_delete = omega arith;
  no_colon = λ e. omega arith;
  no_comma = λ e. omega arith;
  no_slash = λ e. omega arith;
  no_open_brace = λ e. omega arith;
  no_close_brace = λ e. omega arith;
  no_quote = λ e. omega arith;
}

name_of_letters : (bytes : List ℕ) → length bytes ≤ name_max → AllByRecursion IsLetter bytes → IsName bytes
name_of_letters bytes short letters = record
    { short = short; plain = λ k d inside. letter_in_name _ (All-from_recursion IsLetter bytes letters k d inside) }

no_name : IsName []
no_name = record { short = omega arith; plain = λ k d inside. absurd (omega arith) }

dtrace_named : IsName (codes "dtrace")
dtrace_named = name_of_letters (codes "dtrace") (lit≤ tt) (
  (lit≤ tt, lit≤ tt),
  (
    (lit≤ tt, lit≤ tt),
    ((lit≤ tt, lit≤ tt), ((lit≤ tt, lit≤ tt), ((lit≤ tt, lit≤ tt), ((lit≤ tt, lit≤ tt), tt)))),
  ),
)

pub begin_spelled : SpellsTuple (codes "dtrace:::BEGIN")
    (record { provider = codes "dtrace"; «module» = []; function = []; name = codes "BEGIN" })
begin_spelled = record {
  spelled = refl;
  provider_named = dtrace_named;
  module_named = no_name;
  function_named = no_name;
  name_named = name_of_letters (codes "BEGIN") (lit≤ tt)
      ((lit≤ tt, lit≤ tt), ((lit≤ tt, lit≤ tt), ((lit≤ tt, lit≤ tt), ((lit≤ tt, lit≤ tt), ((lit≤ tt, lit≤ tt), tt)))));
  some_provider = λ e. cc;
  some_name = λ e. cc;
}

pub end_spelled : SpellsTuple (codes "dtrace:::END")
    (record { provider = codes "dtrace"; «module» = []; function = []; name = codes "END" })
end_spelled = record {
  spelled = refl;
  provider_named = dtrace_named;
  module_named = no_name;
  function_named = no_name;
  name_named = name_of_letters (codes "END") (lit≤ tt)
      ((lit≤ tt, lit≤ tt), ((lit≤ tt, lit≤ tt), ((lit≤ tt, lit≤ tt), tt)));
  some_provider = λ e. cc;
  some_name = λ e. cc;
}

pub parsed : (text : List ℕ) (o : Option ProbeTuple) (tuple : ProbeTuple)
    → IfNone o ((t : ProbeTuple) → SpellsTuple text t → ⊥) → SpellsTuple text tuple → IsSome o
parsed text None tuple none spelled = absurd (none tuple spelled)
parsed text (Some t) tuple none spelled = refl

-- what `==` of two tuples tells
all_four : (p q r s : Bool) {C : Type 0} → true ≡ (p && q && r && s)
    → (true ≡ p → true ≡ q → true ≡ r → true ≡ s → C) → C
all_four true true true true e f = f refl refl refl refl
all_four true true true false e f = absurd (cc)
all_four true true false s e f = absurd (cc)
all_four true false r s e f = absurd (cc)
all_four false q r s e f = absurd (cc)

pub same_tuple : (a b : ProbeTuple) → true ≡ eq_tuples a b → a ≡ b
same_tuple a b e =
    all_four (bytes_eq a.provider b.provider) (bytes_eq a.module b.module) (bytes_eq a.function b.function)
    (bytes_eq a.name b.name) e
    (λ p q r s. λ i. record {
      provider = same_text a.provider b.provider p i;
      «module» =
          same_text a.module b.module q i;
      function = same_text a.function b.function r i;
      name = same_text a.name b.name s i;
    })

and_true : (p q r s : Bool) → p ≡ true → q ≡ true → r ≡ true → s ≡ true → (p && q && r && s) ≡ true
and_true true true true true p q r s = refl
and_true true true true false p q r s = absurd (cc)
and_true true true false d p q r s = absurd (cc)
and_true true false c d p q r s = absurd (cc)
and_true false b c d p q r s = absurd (cc)

equal_to_itself : (a : ProbeTuple) → eq_tuples a a ≡ true
equal_to_itself a = and_true _ _ _ _ ((bytes_eq-Decides a.provider a.provider).1 refl)
    ((bytes_eq-Decides a.module a.module).1 refl) ((bytes_eq-Decides a.function a.function).1 refl)
    ((bytes_eq-Decides a.name a.name).1 refl)

pub other_tuple : (a b : ProbeTuple) → false ≡ eq_tuples a b → a ≢ b
other_tuple a b e same = false≢true (e ∙ ap (λ (t : ProbeTuple). eq_tuples a t) (sym same) ∙ equal_to_itself a)

pub all_at : {A : Type 0} (rows : List A) (k : ℕ) (row : A) (P : A → Type 0) → slice_get rows k ≡ Some row
    → All P rows → P row
all_at rows k row P there each =
    subst P (get_or_from_slice_get rows k row row there) (each k row (slice_get_within rows k row there))
