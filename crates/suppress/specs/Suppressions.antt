-- What a suppression suppresses. The two kinds are those of Clang's manual 'RealtimeSanitizer'; the
-- rule of matching is this project's own.
use Rattle.std.specs.Prelude.{◌≡◌, ℕ, List, Any}
use Rattle.std.specs.Borrow.{Bor}
use Rattle.suppress.specs.declared.suppressions.Suppression.{Suppression}
use Rattle.suppress.specs.declared.suppressions.SuppressionKind.TheVariants.{FunctionNameMatches, CallStackContains}
use Rattle.suppress.specs.Pattern.{Matches}

-- A call of the function with this name is suppressed.
abbrev pub SuppressesFunction : Suppression → List ℕ → Type 0
SuppressesFunction entry name = (entry.kind ≡ FunctionNameMatches) × Matches entry.pattern name

-- A call is suppressed on a stack with these names.
abbrev pub SuppressesStack : Suppression → List (Bor (List ℕ)) → Type 0
SuppressesStack entry names = (entry.kind ≡ CallStackContains) × Any (λ name. Matches entry.pattern name.now) names
