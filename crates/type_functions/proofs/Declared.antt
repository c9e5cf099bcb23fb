-- The declaration of a function is read by its parts.
use Rattle.std.specs.Prelude.{Result, Ok, Err}
use Rattle.std.proofs.Common.{◌≡◌, ◌∙◌, refl, sym, ap, subst, ℕ, length, Option, Some, None}
use Rattle.eff_types.specs.declared.levels.Effects.{Effects}
use Rattle.core_unit.specs.declared.tables.FunctionInfo.{FunctionInfo}
use Rattle.type_rules.specs.Functions.{first_declaration, further_declaration, marked}
use Rattle.type_rules.specs.Reading.{Read, Good, and_then}
use Rattle.type_rules.specs.Seen.{Seen}
use Rattle.type_rules.specs.declared.declarators.FunctionDeclaration.{FunctionDeclaration}
use Rattle.type_functions.specs.Noted.{first_faults, first_noted, faults_beside, further_faults, further_noted}
use Rattle.typing_state.specs.Answers.{Gives}
use Rattle.typing_state.specs.declared.stop.Stop.{Stop}
use Rattle.typing_state.specs.declared.stop.Stop.TheVariants as stop

then_good : {A B : Type 0} (m : Read A) (k : A → Seen → Read B) (a : A) (s : Seen) → m ≡ Good a s → and_then m k ≡ k a s
unfolding and_then
then_good m k a s e = ap (λ r. and_then r k) e

-- A rule is answered by what its first part answers, where that fails, and else by what follows.
stops : {A B : Type 0} (whole : Read B) (m : Read A) (k : A → Seen → Read B) (why : Stop) (t : Seen) → whole ≡ and_then m k → Gives m (Err why) t →
    Gives whole (Err why) t
unfolding and_then
stops whole m k (stop.Fault number place) t is bad = is ∙ ap (λ r. and_then r k) bad
stops whole m k stop.NoMemory t is bad = tt

ends : {A : Type 0} (whole last : Read A) (answer : Result A Stop) (t : Seen) → whole ≡ last → Gives last answer t → Gives whole answer t
ends whole last (Ok a) t is good = is ∙ good
ends whole last (Err (stop.Fault number place)) t is bad = is ∙ bad
ends whole last (Err stop.NoMemory) t is bad = tt

pub first_stops : (d : FunctionDeclaration) (s : Seen) (effects : Effects) (why : Stop) → effects ≡ marked s.marks (length s.functions) d.kind.effects →
    Gives (first_faults d effects s) (Err why) s → Gives (first_declaration d s) (Err why) s
unfolding and_then
first_stops d s effects why is bad =
    subst (λ e. Gives (first_faults d e s) (Err why) s → Gives (first_declaration d s) (Err why) s) (sym is)
    (λ given. stops (first_declaration d s) (first_faults d (marked s.marks (length s.functions) d.kind.effects) s) _ why s refl given)
    bad

pub first_ends : (d : FunctionDeclaration) (s : Seen) (effects : Effects) (answer : Result ℕ Stop) (t : Seen) →
    effects ≡ marked s.marks (length s.functions) d.kind.effects → first_faults d effects s ≡ Good tt s →
    Gives (first_noted d effects s) answer t → Gives (first_declaration d s) answer t
unfolding and_then
first_ends d s effects answer t is =
    subst (λ e. first_faults d e s ≡ Good tt s → Gives (first_noted d e s) answer t → Gives (first_declaration d s) answer t) (sym is)
    (λ good last. ends (first_declaration d s) _ answer t (then_good (first_faults d (marked s.marks (length s.functions) d.kind.effects) s) _ tt s good) last)

pub further_stops : (d : FunctionDeclaration) (number : ℕ) (f : Option FunctionInfo) (s : Seen) (effects : Effects) (why : Stop) →
    effects ≡ marked s.marks number d.kind.effects → Gives (further_faults d effects f s) (Err why) s →
    Gives (further_declaration d s.marks number f s) (Err why) s
unfolding and_then
further_stops d number None s effects (stop.Fault n p) is bad = cc
further_stops d number None s effects stop.NoMemory is bad = tt
further_stops d number (Some f) s effects why is bad =
    subst (λ e. Gives (faults_beside d e f s) (Err why) s → Gives (further_declaration d s.marks number (Some f) s) (Err why) s) (sym is)
    (λ given. stops (further_declaration d s.marks number (Some f) s) (faults_beside d (marked s.marks number d.kind.effects) f s) _ why s refl given)
    bad

pub further_ends : (d : FunctionDeclaration) (number : ℕ) (f : Option FunctionInfo) (s : Seen) (effects : Effects) (answer : Result ℕ Stop) (t : Seen) →
    effects ≡ marked s.marks number d.kind.effects → further_faults d effects f s ≡ Good tt s →
    Gives (further_noted d number effects f s) answer t → Gives (further_declaration d s.marks number f s) answer t
unfolding and_then
further_ends d number None s effects answer t is = λ good last. let clash : ⊥ = cc in absurd clash
further_ends d number (Some f) s effects answer t is =
    subst (λ e. faults_beside d e f s ≡ Good tt s → Gives (further_noted d number e (Some f) s) answer t →
    Gives (further_declaration d s.marks number (Some f) s) answer t) (sym is)
    (λ good last. ends (further_declaration d s.marks number (Some f) s) _ answer t (then_good (faults_beside d (marked s.marks number d.kind.effects) f s) _ tt s good) last)

-- beside the function that stands there
pub beside : (d : FunctionDeclaration) (effects : Effects) (f : FunctionInfo) (there : Option FunctionInfo) (s : Seen) (answer : Result (Unit {0}) Stop) →
    Some f ≡ there → Gives (faults_beside d effects f s) answer s → Gives (further_faults d effects there s) answer s
beside d effects f there s answer is given = rw (sym is) given
