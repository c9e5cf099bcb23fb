-- Small reports with their printed texts, which are computed.
use Rattle.std.proofs.Common.{◌≡◌, refl, ℕ, true, false, List, [], ◌∷◌, None, codes}
use Rattle.std.specs.Fmt.{digits}
use Rattle.core_unit.specs.declared.tables.FunctionInfo.{FunctionInfo}
use Rattle.core_unit.specs.declared.tables.UnitParts.{UnitParts}
use Rattle.eff_types.specs.declared.levels.Level.TheVariants.{NonAllocating, NonBlocking}
use Rattle.eff_types.specs.declared.types.FnType.{FnType}
use Rattle.type_rules.specs.declared.notes.TypeWarning.TheVariants.{Conversion, Redeclaration}
use Rattle.unit_check.specs.declared.verdicts.ChainStep.{ChainStep}
use Rattle.unit_check.specs.declared.verdicts.ViolationKind.{ViolationKind}
use Rattle.unit_check.specs.declared.verdicts.ViolationKind.TheVariants.{Calls, CallsThrough, ThreadLocal, StaticLocal}
use Rattle.unit_check.specs.declared.verdicts.Warning.{Warning}
use Rattle.warning_text.specs.WarningText.{NamedSource, merged_text, head_of, call_message, expression_message, thread_local_message, static_local_message, call_reason, expression_reason, thread_local_reason, static_local_reason, conversion_message, redeclaration_message}

module _ (u : UnitParts) (k : FnType) where
  abbrev named : List ℕ → FunctionInfo
  named name = record { name = name; kind = k; noreturn = false; internal = false; place = 0; body = None; frame_words = 0 }

  abbrev unit : UnitParts
  unit = record u { functions = named (codes "say") ∷ named (codes "mid") ∷ named (codes "f") ∷ [] }

  -- a warning with a chain of two notes
  abbrev chained : NamedSource
  chained = record {
    file = codes "r3.c";
    bytes = codes "#include <stdio.h>\nvoid say(void) { puts(s); }\nvoid mid(void) { say(); }\nvoid f(void) [[clang::nonblocking]] { mid(); }\n";
  }

  a_chain_of_two_notes : merged_text chained unit [] (record { function = 2; place = 111; kind = Calls 1; level = NonBlocking } ∷ [])
      ((record { function = 1; place = 64; kind = Calls 0 } ∷ record { function = 0; place = 36; kind = Calls 4104 } ∷ []) ∷ []) ≡
      codes "r3.c:4:39: warning: function with 'nonblocking' attribute must not call non-'nonblocking' function 'mid' [-Wfunction-effects]\nr3.c:3:18: note: function 'mid' cannot be inferred 'nonblocking' because it calls non-'nonblocking' function 'say'\nr3.c:2:18: note: function 'say' cannot be inferred 'nonblocking' because it calls non-'nonblocking' function 'puts'\n"
  unfolding digits head_of call_message call_reason
  a_chain_of_two_notes = refl

  abbrev short : NamedSource
  short = record { file = codes "a.c"; bytes = codes "0123\n567\n9abcdef" }

  -- conversions and redeclarations stand among violations by their places, and behind one at their own place
  warnings_of_both_kinds : merged_text short unit (Redeclaration 1 NonBlocking ∷ Conversion 5 NonAllocating ∷ Conversion 6 NonBlocking ∷ Conversion 12 NonBlocking ∷ [])
      (record { function = 2; place = 5; kind = CallsThrough; level = NonBlocking } ∷ record { function = 2; place = 9; kind = StaticLocal; level = NonBlocking }
      ∷ record { function = 1; place = 10; kind = ThreadLocal; level = NonAllocating } ∷ []) ([] ∷ [] ∷ [] ∷ []) ≡
      codes "a.c:1:2: warning: attribute 'nonblocking' on function does not match previous declaration [-Wfunction-effects]\na.c:2:1: warning: function with 'nonblocking' attribute must not call non-'nonblocking' expression [-Wfunction-effects]\na.c:2:1: warning: attribute 'nonallocating' should not be added via type conversion [-Wfunction-effects]\na.c:2:2: warning: attribute 'nonblocking' should not be added via type conversion [-Wfunction-effects]\na.c:3:1: warning: function with 'nonblocking' attribute must not have static local variables [-Wfunction-effects]\na.c:3:2: warning: function with 'nonallocating' attribute must not use thread-local variables [-Wfunction-effects]\na.c:3:4: warning: attribute 'nonblocking' should not be added via type conversion [-Wfunction-effects]\n"
  unfolding digits head_of expression_message thread_local_message static_local_message conversion_message redeclaration_message
  warnings_of_both_kinds = refl

  -- the other notes
  other_notes : merged_text short unit [] (record { function = 2; place = 0; kind = Calls 4096; level = NonAllocating } ∷ [])
      ((record { function = 0; place = 5; kind = CallsThrough } ∷ record { function = 1; place = 6; kind = ThreadLocal } ∷ record { function = 1; place = 7; kind = StaticLocal } ∷ []) ∷ []) ≡
      codes "a.c:1:1: warning: function with 'nonallocating' attribute must not call non-'nonallocating' function 'malloc' [-Wfunction-effects]\na.c:2:1: note: function 'say' cannot be inferred 'nonallocating' because it calls non-'nonallocating' expression\na.c:2:2: note: function 'mid' cannot be inferred 'nonallocating' because it uses a thread-local variable\na.c:2:3: note: function 'mid' cannot be inferred 'nonallocating' because it has a static local variable\n"
  unfolding digits head_of call_message expression_reason thread_local_reason static_local_reason
  other_notes = refl
