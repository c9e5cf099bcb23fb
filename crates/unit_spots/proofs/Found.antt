-- One place more is found, and the places of initializers and of statements without parts.
use Rattle.std.proofs.Common.{◌≡◌, ◌∙◌, refl, sym, ap, ℕ, List, [], ◌∷◌, ◌++◌, map, take, drop, append_assoc}
use denote.Hole.Carrier.{hidden}
use Rattle.core_unit.specs.Places as unit
use Rattle.core_unit.specs.Places.{initializer_spots, initializers_spots, stmt_spots, spots}
use Rattle.core_unit.specs.declared.body.Braces.{Braces}
use Rattle.core_unit.specs.declared.body.Initializer.{Initializer}
use Rattle.core_unit.specs.declared.body.Initializer.TheBlock.{hidden-the_row-Initializer-0, shape-the_row-Initializer-0}
use Rattle.core_unit.specs.declared.body.Initializer.TheVariants as init
use Rattle.core_unit.specs.declared.body.Stmt.TheVariants as stmt
use Rattle.core_unit.specs.declared.expressions.Expr.{Expr}
use Rattle.unit_spots.specs.Spots.{seen, call_of}
use Rattle.unit_spots.specs.Walk.{Remains, parts_spots}
use Rattle.unit_spots.specs.declared.spots.Action.{Action}
use Rattle.unit_spots.specs.declared.spots.Action.TheVariants.{UsesThreadLocal, DeclaresStatic}
use Rattle.unit_spots.specs.declared.spots.Spot.{Spot}

pub found_one : (whole found new : List Spot) (s : Spot) (spot : unit.Spot) (rest : List unit.Spot) → s ≡ seen spot → new ≡ found ++ s ∷ [] →
    Remains whole found (spot ∷ rest) → Remains whole new rest
found_one whole found new s spot rest e grown r = record {
  is = r.is ∙ (sym (append_assoc found (seen spot ∷ []) (map seen rest)) ∙ ap (λ xs. xs ++ map seen rest) (ap (λ x. found ++ x ∷ []) (sym e) ∙ sym grown));
}

pub found_use : (whole found new : List Spot) (at : ℕ) (rest : List unit.Spot) → new ≡ found ++ record { place = at; action = UsesThreadLocal } ∷ [] →
    Remains whole found (unit.Uses at ∷ rest) → Remains whole new rest
found_use whole found new at rest grown r = found_one whole found new _ (unit.Uses at) rest refl grown r

pub found_declaration : (whole found new : List Spot) (at : ℕ) (rest : List unit.Spot) → new ≡ found ++ record { place = at; action = DeclaresStatic } ∷ [] →
    Remains whole found (unit.Declares at ∷ rest) → Remains whole new rest
found_declaration whole found new at rest grown r = found_one whole found new _ (unit.Declares at) rest refl grown r

pub found_call : (whole found new : List Spot) (at site : ℕ) (callee : unit.Callee) (action : Action) (rest : List unit.Spot) → action ≡ call_of callee →
    new ≡ found ++ record { place = at; action = action } ∷ [] → Remains whole found (unit.Calls at site callee ∷ rest) → Remains whole new rest
found_call whole found new at site callee action rest e grown r =
    let same : record { place = at; action = action } ≡ seen (unit.Calls at site callee) = ap (λ (a : Action). let s : Spot = record { place = at; action = a } in s) e in
    found_one whole found new _ (unit.Calls at site callee) rest same grown r

row : (is : List Initializer) (rest : List unit.Spot) → initializers_spots (hidden-the_row-Initializer-0 is) rest ≡ parts_spots is rest
unfolding initializer_spots hidden hidden-the_row-Initializer-0 shape-the_row-Initializer-0
row [] rest = refl
row (i ∷ is) rest = ap (initializer_spots i) (row is rest)

pub initializer-List : (rest : List unit.Spot) (is : List Initializer) (filled : ℕ) → initializer_spots (init.List is filled) rest ≡ parts_spots is rest
unfolding initializer_spots hidden hidden-the_row-Initializer-0 shape-the_row-Initializer-0
initializer-List rest is filled = row is rest

pub initializer-Value : (rest : List unit.Spot) (form : Braces) (e : Expr) → initializer_spots (init.Value form e) rest ≡ spots e rest
unfolding initializer_spots
initializer-Value rest form e = refl

pub initializer-Absent : (rest : List unit.Spot) (words : ℕ) → initializer_spots (init.Absent words) rest ≡ rest
unfolding initializer_spots
initializer-Absent rest words = refl

pub initializer-Text : (rest : List unit.Spot) (bytes : List ℕ) (filled : ℕ) → initializer_spots (init.Text bytes filled) rest ≡ rest
unfolding initializer_spots
initializer-Text rest bytes filled = refl

pub initializer-Zeros : (rest : List unit.Spot) (words : ℕ) → initializer_spots (init.Zeros words) rest ≡ rest
unfolding initializer_spots
initializer-Zeros rest words = refl

pub initializer-Mutex : (rest : List unit.Spot) → initializer_spots init.Mutex rest ≡ rest
unfolding initializer_spots
initializer-Mutex rest = refl

pub ruleset initializer_rules = (initializer-List, initializer-Value, initializer-Absent, initializer-Text, initializer-Zeros, initializer-Mutex)

pub stmt-Empty : (rest : List unit.Spot) → stmt_spots stmt.Empty rest ≡ rest
unfolding stmt_spots
stmt-Empty rest = refl

pub stmt-Break : (rest : List unit.Spot) → stmt_spots stmt.Break rest ≡ rest
unfolding stmt_spots
stmt-Break rest = refl

pub stmt-Continue : (rest : List unit.Spot) → stmt_spots stmt.Continue rest ≡ rest
unfolding stmt_spots
stmt-Continue rest = refl

pub ruleset jump_rules = (stmt-Empty, stmt-Break, stmt-Continue)
