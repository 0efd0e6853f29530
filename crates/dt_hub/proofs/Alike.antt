-- For firings of one kind the same seats are named.
use Rattle.std.proofs.Common.{◌≡◌, ◌<◌, ◌≤◌, ℕ, Bool, List, [], ◌++◌, Option, Some, None, IsSome, IfSome, length, subst, sym, ap, ◌∙◌, length-append, arith}
use Rattle.std.specs.Prelude.{IsSomeAnd, IsTrue, MatchBool}
use Rattle.std.proofs.lemmas.List.{append-nil, nil_from_length}
use mathlib.Core.List.{IsPrefix}
use Rattle.dt_facts.specs.laws.Beginnings.{prefix_trans}
use Rattle.dt_chain.specs.Look.{IsLook, NamesFiring}
use Rattle.dt_chain.specs.Writes.{Published, Write, published_on}
use Rattle.dt_cred.specs.declared.class.Class.TheVariants.{Pid}
use Rattle.dt_cred.specs.declared.firing.Firing.{Firing}
use Rattle.dt_cred.specs.declared.rights.Mode.{Mode}
use Rattle.dt_hub.specs.Serving.{IsOfKind}
use Rattle.dt_hub.specs.declared.naming.FiringKind.{FiringKind}
use Rattle.dt_machine.specs.Interest as interest
use Rattle.dt_machine.specs.Limits.{first_probe_id}
use Rattle.dt_machine.specs.Registry.{Belongs, Registry, probe_of, process_of}
use Rattle.dt_cred.specs.Rights as rights

module _ (registry : Registry) (f g : Firing) (cpu : f.cpu ≡ g.cpu) (probe : f.probe ≡ g.probe) (pid : f.pid ≡ g.pid)
    (mode : f.mode ≡ g.mode) where
  belongs_too : Belongs registry f → Belongs registry g
  belongs_too b =
      let P : ℕ → ℕ → Type 0 = λ probe pid. IfSome (probe_of registry probe) (λ one. (own : ℕ) → one.class ≡ Pid own → pid ≡ own) in
      record {
        cpu = subst (λ n. n < registry.cpus) cpu b.cpu;
        of_file = subst (λ n. first_probe_id ≤ n) probe b.of_file;
        probe = subst (λ n. IsSome (probe_of registry n)) probe b.probe;
        process = subst (λ n. IsSome (process_of registry n)) pid b.process;
        traced = subst (λ n. P g.probe n) pid (subst (λ n. P n f.pid) probe b.traced);
      }

  named_too : (publication : Published) → NamesFiring registry publication f → NamesFiring registry publication g
  named_too publication n = record {
    belongs = belongs_too n.belongs;
    interested = subst (λ k. interest.Names publication.probes k) probe n.interested;
    admitted = λ one process is_probe is_process.
        subst (λ (m : Mode). IsTrue (rights.admits publication.account one.class m process)) mode
        (n.admitted one process
        (subst (λ k. probe_of registry k ≡ Some one) (sym probe) is_probe)
        (subst (λ k. process_of registry k ≡ Some process) (sym pid) is_process));
  }

some_and : {X : Type 0} (P Q : X → Type 0) (o : Option X) → ((x : X) → P x → Q x) → IsSomeAnd o P → IsSomeAnd o Q
some_and P Q None f p = absurd p
some_and P Q (Some x) f p = f x p

pub alike_named : (registry : Registry) (writes : List Write) (f g : Firing) (lives : ℕ → Option ℕ) → f.cpu ≡ g.cpu → f.probe ≡ g.probe
    → f.pid ≡ g.pid → f.mode ≡ g.mode → IsLook registry writes f lives → IsLook registry writes g lives
alike_named registry writes f g lives cpu probe pid mode look = record {
  exactly = λ seat life. (
    λ is. some_and (λ p. (p.life ≡ life) × NamesFiring registry p f) (λ p. (p.life ≡ life) × NamesFiring registry p g)
        (published_on writes seat) (λ p n. (n.0, named_too registry f g cpu probe pid mode p n.1))
        ((look.exactly seat life).0 is),
    λ named. (look.exactly seat life).1
        (some_and (λ p. (p.life ≡ life) × NamesFiring registry p g) (λ p. (p.life ≡ life) × NamesFiring registry p f)
        (published_on writes seat) (λ p n. (n.0, named_too registry g f (sym cpu) (sym probe) (sym pid) (sym mode) p n.1)) named),
  );
}

-- what a look found for a firing serves all of its kind
pub alike_serve : (registry : Registry) (kind : FiringKind) (f g : Firing) → IsOfKind kind f → IsOfKind kind g
    → (writes : List Write) (lives : ℕ → Option ℕ) → IsLook registry writes f lives → IsLook registry writes g lives
alike_serve registry kind f g of_f of_g writes lives =
    alike_named registry writes f g lives (sym of_f.0 ∙ of_g.0) (sym of_f.1 ∙ of_g.1) (sym of_f.2 ∙ of_g.2) (sym of_f.3 ∙ of_g.3)

-- lists that begin each other are one
begin_each_other : (xs ys : List Write) → IsPrefix xs ys → IsPrefix ys xs → xs ≡ ys
begin_each_other xs ys p q =
    let none : p.0 ≡ [] =
    nil_from_length p.0 (omega (arith, ap length p.1, length-append xs p.0, ap length q.1, length-append ys q.0)) in
    sym (append-nil xs) ∙ ap (λ rest. xs ++ rest) (sym none) ∙ p.1

-- what is told begins with what was seen; where a list begins this and is begun by that, all three are one
pub all_same : (front seen told : List Write) → IsPrefix seen told → IsPrefix told front → IsPrefix front seen
    → (front ≡ seen) × (told ≡ seen)
all_same front seen told known within begins = (
  begin_each_other front seen begins (prefix_trans seen told front known within),
  begin_each_other told seen (prefix_trans told front seen within begins) known,
)

-- of two fronts in order
pub in_order : (b : Bool) (P Q : Type 0) → MatchBool b P Q → IsTrue b → P
in_order b P Q m so = subst (λ (x : Bool). MatchBool x P Q) so m

pub of_some : {X : Type 0} (P : X → Type 0) (x y : X) → Some x ≡ Some y → P x → P y
of_some P x y same p = subst (λ o. IfSome o P) same p
