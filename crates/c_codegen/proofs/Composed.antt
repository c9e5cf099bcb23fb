-- What is known of the code of a unit as it is put together of its parts.
use Rattle.std.proofs.Common.{◌≡◌, refl, sym, ap, subst, ℕ, ◌+◌, ◌^◌, ◌<◌, ◌≤◌, List, [], length, Option, Bool, true, false, ◌⊎◌, inl, inr, arith}
use Rattle.std.specs.Prelude.{IsTrue, ◌↔◌}
use Rattle.std.proofs.lemmas.Bool.{cases_lt}
use Rattle.core_unit.specs.Units.{IsUnit}
use Rattle.core_unit.specs.declared.tables.UnitParts.{UnitParts}
use Rattle.machine_code.specs.Codes.{IsCode}
use Rattle.mcode.specs.Machine.{Program}
use Rattle.mcode.specs.declared.code.Entry.{Entry}
use Rattle.src_model.specs.Follows.{Behaves}
use Rattle.c_codegen.specs.declared.draft.Draft.{Draft}
use Rattle.c_codegen.specs.Emits.{here}
use Rattle.c_codegen.specs.Functions.{AddsFunctions}
use Rattle.c_codegen.specs.Refusals.{unit_nodes, node_limit}
use Rattle.c_codegen.specs.Sizes.{unit_size}
use Rattle.c_codegen.proofs.Bounds.{unit_bound}
use Rattle.c_codegen.proofs.Follows.{behaves}
use Rattle.c_codegen.proofs.Whole.{all_compiled, all_code}

-- the code of these parts
abbrev code_of : Draft → List (Option Entry) → (entry words : ℕ) → Program
code_of d entries entry words = record { instructions = d.instructions; texts = d.texts; entries = entries; entry = entry; static_words = words }

-- there is room for the code of a unit that isn't too long
pub room_for_all : (u : UnitParts) (d : Draft) → IsUnit u → unit_nodes u ≤ node_limit → d.instructions ≡ [] → here d + unit_size u.functions ≤ 2 ^ 21
room_for_all u d lawful few none = omega (arith, unit_bound u lawful, few, ap length none)

pub code_is : (u : UnitParts) (old new : Draft) (before entries : List (Option Entry)) (entry words : ℕ) → IsUnit u → unit_nodes u ≤ node_limit → old.instructions ≡ [] → before ≡ [] →
    AddsFunctions u (length u.functions) old new before entries → words ≡ length u.static_words → IsCode (code_of new entries entry words)
code_is u old new before entries entry words lawful few none empty all statics =
    all_code u (code_of new entries entry words) old new lawful none (subst (λ l. AddsFunctions u (length u.functions) old new l entries) empty all) refl refl statics few

pub code_behaves : (u : UnitParts) (old new : Draft) (before entries : List (Option Entry)) (entry words : ℕ) (code : Program) → IsUnit u → old.instructions ≡ [] → before ≡ [] →
    AddsFunctions u (length u.functions) old new before entries → words ≡ length u.static_words → code ≡ code_of new entries entry words → Behaves u code
code_behaves u old new before entries entry words code lawful none empty all statics is =
    subst (Behaves u) (sym is) (behaves u (code_of new entries entry words)
    (all_compiled u (code_of new entries entry words) old new lawful none (subst (λ l. AddsFunctions u (length u.functions) old new l entries) empty all) refl refl statics))

-- a unit isn't too long where the test of that says so
pub short_where : (b : Bool) (nodes limit : ℕ) → (IsTrue b ↔ (limit < nodes)) → b ≡ false → nodes ≤ limit
short_where b nodes limit h e = by (cases_lt limit nodes)
  where
    by : (limit < nodes) ⊎ (nodes ≤ limit) → nodes ≤ limit
    by (inl long) = let test : b ≡ true = h.1 long in let clash : ⊥ = cc in absurd clash
    by (inr short) = short
