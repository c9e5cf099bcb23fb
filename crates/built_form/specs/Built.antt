-- What the functions of a file of the built form mean: the conditions on their names, and the unit that they make.
use Rattle.std.specs.Prelude.{◌≡◌, ℕ, ◌+◌, ◌≤◌, Bool, true, false, List, [], ◌∷◌, ◌++◌, map, length, codes, Option, None, Some, IsSome, IsSomeAnd, All, position, slice_get}
use Rattle.std.specs.List.{AllByRecursion, list_any}
use Rattle.std.specs.Str.{IsUtf8, bytes_eq}
use Rattle.c_text.specs.Spelling.{IsWithin, text_of}
use Rattle.c_text.specs.declared.Token.{Token}
use Rattle.eff_types.specs.declared.levels.Effects.{Effects}
use Rattle.eff_types.specs.declared.levels.Level.TheVariants.{NonBlocking}
use Rattle.eff_types.specs.Effects.{plain}
use Rattle.built_unit.specs.declared.units.Body.{Body}
use Rattle.built_unit.specs.declared.units.FunctionInfo.{FunctionInfo}
use Rattle.built_unit.specs.declared.units.SiteInfo.{SiteInfo}
use Rattle.built_unit.specs.Units.{UnitParts}
use Rattle.built_form.specs.declared.item.Item.{Item}
use Rattle.built_form.specs.declared.item.Kind.{Kind}
use Rattle.built_form.specs.declared.item.Kind.TheVariants.{Void, Main}
use Rattle.built_form.specs.declared.item.Mark.{Mark}
use Rattle.built_form.specs.declared.item.Mark.TheVariants.{Nonblocking, Blocking}
use Rattle.built_form.specs.Form.{lexemes_of, Spells, spelled_items}

-- The names that no function but `main` has: those of the library's functions, types and macros, and `main` itself.
unfoldable pub reserved_names : List (List ℕ)
reserved_names =
    codes "malloc" ∷ codes "calloc" ∷ codes "free" ∷ codes "pthread_create" ∷ codes "pthread_join"
    ∷ codes "pthread_mutex_lock" ∷ codes "pthread_mutex_unlock" ∷ codes "usleep" ∷ codes "puts" ∷ codes "putchar"
    ∷ codes "abs" ∷ codes "__rtsan_disable" ∷ codes "__rtsan_enable" ∷ codes "exit" ∷ codes "abort"
    ∷ codes "NULL" ∷ codes "size_t" ∷ codes "pthread_t" ∷ codes "pthread_mutex_t" ∷ codes "PTHREAD_MUTEX_INITIALIZER"
    ∷ codes "main" ∷ []

-- whether this name is one of them
unfoldable pub is_reserved : List ℕ → Bool
is_reserved text = list_any (bytes_eq text) reserved_names

-- A function that returns nothing has a name that isn't reserved, and one that returns 0 is called `main` (C17 5.1.2.2.1).
abbrev pub IsNameOf : List ℕ → Kind → Type 0
IsNameOf text (Void ending) = is_reserved text ≡ false
IsNameOf text (Main calls) = text ≡ codes "main"

-- the number of the function with this name, where the names of the functions are these in order of declaration
unfoldable pub number_of : List (List ℕ) → List ℕ → Option ℕ
number_of names text = position (bytes_eq text) names

-- a function that is only declared calls nothing
abbrev pub calls_in : Option (List Token) → List Token
calls_in None = []
calls_in (Some calls) = calls

-- the names of the functions that the body calls
abbrev pub calls_of : Kind → List Token
calls_of (Void ending) = calls_in ending.calls
calls_of (Main calls) = calls

-- The names that are in scope in a function's body: its own, and those that were declared before it (C17 6.2.1).
abbrev pub scope_of : List ℕ → List (List ℕ) → Item → List (List ℕ)
scope_of source known item = known ++ text_of source item.name ∷ []

-- each of the calls is of a function of these names (C17 6.5.1)
abbrev pub AreDeclared : List ℕ → List (List ℕ) → List Token → Type 0
AreDeclared source scope calls = AllByRecursion (λ call. IsSome (number_of scope (text_of source call))) calls

-- The conditions on a function, where these names were declared before it.
pub record IsItemBuilt (source : List ℕ) (known : List (List ℕ)) (item : Item) : Type 0 where
  -- no name is declared twice
  pub fresh : number_of known (text_of source item.name) ≡ None
  -- its name is one that a function of its kind may have
  pub allowed : IsNameOf (text_of source item.name) item.kind
  -- so it is of each token of letters, digits and `_`, as the spelling makes them
  pub readable : IsUtf8 (text_of source item.name)
  -- a called function is declared before the call, or is this one
  pub declared : AreDeclared source (scope_of source known item) (calls_of item.kind)

-- each function meets the conditions, where those before it are declared
abbrev pub AreItemsBuilt : List ℕ → List (List ℕ) → List Item → Type 0
AreItemsBuilt source known [] = Unit {0}
AreItemsBuilt source known (item ∷ items) =
    IsItemBuilt source known item × AreItemsBuilt source (scope_of source known item) items

-- the names of the function and of those that it calls stand within the source
abbrev pub IsItemWithin : List ℕ → Item → Type 0
IsItemWithin source item = IsWithin source item.name × All (IsWithin source) (calls_of item.kind)

-- `nonblocking` is a level, and `blocking` a flag: that level must not be inferred (Clang's manual 'Function Effect Analysis')
abbrev pub marked_effects : Option Mark → Effects
marked_effects None = plain
marked_effects (Some Nonblocking) = record plain { level = NonBlocking }
marked_effects (Some Blocking) = record plain { no_block_inference = true }

-- `main` has no attribute
abbrev pub effects_of : Kind → Effects
effects_of (Void ending) = marked_effects ending.mark
effects_of (Main calls) = plain

-- as many numbers as there are calls, from `next` on
abbrev pub numbered : ℕ → List Token → List ℕ
numbered next [] = []
numbered next (call ∷ calls) = next ∷ numbered (next + 1) calls

-- a function that is only declared has no body
abbrev pub void_body : ℕ → Option (List Token) → Option Body
void_body next None = None
void_body next (Some calls) = Some (record { calls = numbered next calls; returns = None })

-- `main` returns 0
abbrev pub body_of : ℕ → Kind → Option Body
body_of next (Void ending) = void_body next ending.calls
body_of next (Main calls) = Some (record { calls = numbered next calls; returns = Some 0 })

-- the function, whose first call site has the number `next`
abbrev pub function_of : List ℕ → ℕ → Item → FunctionInfo
function_of source next item = record {
  name = text_of source item.name;
  effects = effects_of item.kind;
  place = item.name.start;
  body = body_of next item.kind;
}

-- the call site of a call in the function of this number, where these names are in scope; its first token is the name
abbrev pub site_of : List ℕ → List (List ℕ) → ℕ → Token → SiteInfo
site_of source scope function call = record { function = function; place = call.start; direct = number_of scope (text_of source call) }

-- the call sites of a function, where these names were declared before it: so many functions have lower numbers
abbrev pub item_sites : List ℕ → List (List ℕ) → Item → List SiteInfo
item_sites source known item = map (site_of source (scope_of source known item) (length known)) (calls_of item.kind)

-- the functions in order of declaration; call sites are numbered in source order
abbrev pub functions_of : List ℕ → ℕ → List Item → List FunctionInfo
functions_of source next [] = []
functions_of source next (item ∷ items) =
    function_of source next item ∷ functions_of source (next + length (calls_of item.kind)) items

-- the call sites in source order
abbrev pub sites_of : List ℕ → List (List ℕ) → List Item → List SiteInfo
sites_of source known [] = []
sites_of source known (item ∷ items) = item_sites source known item ++ sites_of source (scope_of source known item) items

-- the unit of these functions: call sites are numbered from 1
abbrev pub unit_of : List ℕ → List Item → UnitParts
unit_of source items = record { functions = functions_of source 1 items; sites = sites_of source [] items }

-- the function is `main`: no other has a body that returns a number
abbrev pub IsMain : FunctionInfo → Type 0
IsMain function = IsSomeAnd function.body (λ body. IsSome body.returns)

-- what the function promises would have to be inferred from its body: it has one, and its declaration says nothing of it
abbrev pub IsInferred : FunctionInfo → Type 0
IsInferred function = IsSome function.body × (function.effects ≡ plain)

-- What a function may call: any but `main`; and where it is `nonblocking`, none whose promise would have to be inferred (nothing
-- is inferred so far).
pub record MayCall (caller callee : FunctionInfo) : Type 0 where
  pub not_main : ¬ IsMain callee
  pub known : caller.effects.level ≡ NonBlocking → ¬ IsInferred callee

-- the function in which the call stands may call the one that it names
pub record IsCallBuilt (functions : List FunctionInfo) (site : SiteInfo) : Type 0 where
  pub may : (caller callee : FunctionInfo) → slice_get functions site.function ≡ Some caller
      → IsSomeAnd site.direct (λ number. slice_get functions number ≡ Some callee) → MayCall caller callee

-- each call of the unit is one that its function may make
abbrev pub AreCallsBuilt : UnitParts → Type 0
AreCallsBuilt unit = All (IsCallBuilt unit.functions) unit.sites

-- The conditions on a file.
pub record IsBuilt (source : List ℕ) (items : List Item) : Type 0 where
  -- `main` is counted too
  pub few : length items ≤ 4096
  pub functions : AreItemsBuilt source [] items
  -- over the whole unit, since it is the callee's definition that decides
  pub calls : AreCallsBuilt (unit_of source items)

-- The tokens are a file of the built form, and this is its unit.
pub record IsOfForm (source : List ℕ) (tokens : List Token) (unit : UnitParts) : Type 0 where
  pub items : List Item
  pub spelled : Spells (spelled_items items) (lexemes_of source tokens) []
  pub built : IsBuilt source items
  pub means : unit ≡ unit_of source items

-- the calls of the unit stand within the source
abbrev pub AreCallsWithin : List ℕ → UnitParts → Type 0
AreCallsWithin source unit = All (λ site. site.place ≤ length source) unit.sites
