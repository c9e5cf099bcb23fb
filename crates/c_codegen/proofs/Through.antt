-- A callee that is no name is called by its type.
use Rattle.std.proofs.Common.{◌≡◌, refl, ap, sym, ℕ, ◌≤◌, None, slice_get}
use Rattle.std.proofs.lemmas.Option.{slice_get_past}
use Rattle.core_unit.specs.Library.{row_type, row_types}
use Rattle.core_unit.specs.Places.{callee, Through}
use Rattle.core_unit.specs.Shapes.{callee_of}
use Rattle.core_unit.specs.Typing.{type_of}
use Rattle.core_unit.specs.declared.expressions.Expr as expr
use Rattle.core_unit.specs.declared.expressions.Expr.{Expr}
use Rattle.eff_types.specs.declared.types.CType.{CType}
use Rattle.src_model.specs.Source.{count_of}

pub called_through : (e : Expr) → ((f : ℕ) (t : CType) → e ≡ expr.Function f t → ⊥) → ((row : ℕ) → e ≡ expr.LibraryFunction row → ⊥) → callee e ≡ Through (callee_of (type_of e))
called_through (expr.Function f t) a b = absurd (a f t refl)
called_through (expr.LibraryFunction row) a b = absurd (b row refl)
called_through (expr.Number sign bits) a b = refl
called_through expr.Null a b = refl
called_through (expr.Sizeof words) a b = refl
called_through (expr.TargetFunction' _ e) a b = refl
called_through (expr.FunctionPointer' _ e) a b = refl
called_through (expr.ArrayPointer' _ o) a b = refl
called_through (expr.AddressOf' _ o) a b = refl
called_through (expr.Load' _ o) a b = refl
called_through (expr.Assign' _ o _ e) a b = refl
called_through (expr.Compound' _ o how _ e) a b = refl
called_through (expr.Step' _ o how which) a b = refl
called_through (expr.Unary' operator _ e) a b = refl
called_through (expr.Binary' operator _ x _ y) a b = refl
called_through (expr.Logical' operator _ x _ y) a b = refl
called_through (expr.Conditional' _ t _ x _ y) a b = refl
called_through (expr.Comma' _ x _ y) a b = refl
called_through (expr.Call' at site _ e _ es) a b = refl
called_through (expr.Convert' why t _ e) a b = refl
called_through (expr.Discard' _ e) a b = refl

pub no_row : (row : ℕ) → 15 ≤ row → 0 ≡ count_of (row_type row)
unfolding row_type
no_row row past =
    let none : slice_get row_types row ≡ None = slice_get_past row_types row past in sym (ap count_of none)
