-- The values of options.
use Rattle.std.specs.Prelude.{ℕ, ◌==◌, if◌then◌else◌, List, [], ◌∷◌, length, codes, Option, Some, None, option_map, option_and_then, filter_map}
use Rattle.std.specs.Str.{bytes_eq}
use Rattle.command.specs.declared.settings.Texts.{Texts}
use Rattle.command.specs.declared.settings.Limits.{Limits}
use Rattle.command.specs.declared.settings.Lists.{Lists}
use Rattle.command.specs.Forms.{number_within, argument_of, is_identifier}
use Rattle.command.specs.Lists.{list_of}
use Rattle.command.specs.declared.limits.TheConstants.{EVENT_LIMIT, WAIT_LIMIT}

abbrev pub Pairs : Type 0
Pairs = List (List ℕ × List ℕ)

abbrev pub value_if : List ℕ → List ℕ × List ℕ → Option (List ℕ)
value_if name pair = if bytes_eq pair.0 name then Some pair.1 else None

-- the values that were given to the option of this name
abbrev pub values_of : List ℕ → Pairs → List (List ℕ)
values_of name given = filter_map (value_if name) given

-- no option comes twice
abbrev pub sole : List (List ℕ) → Option (Option (List ℕ))
sole [] = Some None
sole (value ∷ []) = Some (Some value)
sole (value ∷ second ∷ values) = None

abbrev pub or_default : {A : Type 0} → A → (List ℕ → Option A) → Option (List ℕ) → Option A
or_default default form None = Some default
or_default default form (Some value) = form value

-- what the value of the option spells, or its default where it isn't given
abbrev pub setting : {A : Type 0} → List ℕ → A → (List ℕ → Option A) → Pairs → Option A
setting name default form given = option_and_then (or_default default form) (sole (values_of name given))

abbrev pub some_text : List ℕ → Option (Option (List ℕ))
some_text value = if length value == 0 then None else Some (Some value)

abbrev pub identifier : List ℕ → Option (List ℕ)
identifier value = if is_identifier value then Some value else None

abbrev pub texts_in : Pairs → Option Texts
texts_in given = option_and_then (λ options. option_and_then (λ suppressions. option_map (λ entry.
    record { options = options; suppressions = suppressions; entry = entry })
    (setting (codes "--entry") (codes "main") identifier given))
    (setting (codes "--suppressions") None some_text given))
    (setting (codes "--options") None some_text given)

abbrev pub limits_in : Pairs → Option Limits
limits_in given = option_and_then (λ events. option_and_then (λ wait_limit. option_map (λ workers.
    record { events = events; wait_limit = wait_limit; workers = workers })
    (setting (codes "--workers") 4 (number_within 1 8) given))
    (setting (codes "--wait-limit") WAIT_LIMIT (number_within 1 4294967295) given))
    (setting (codes "--events") EVENT_LIMIT (number_within 1 4294967295) given)

abbrev pub lists_in : Pairs → Option Lists
lists_in given = option_and_then (λ args. option_map (λ schedule. record { args = args; schedule = schedule })
    (setting (codes "--schedule") [] (list_of 65536 (number_within 0 63)) given))
    (setting (codes "--args") [] (list_of 16 argument_of) given)
