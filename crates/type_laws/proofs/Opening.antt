-- Before the first declaration all is lawful, and so is all behind the last one.
use Rattle.std.proofs.Common.{◌≡◌, ℕ, ◌<◌, false, subst, List, [], ◌∷◌, arith}
use Rattle.eff_types.specs.Effects.{conflict}
use Rattle.eff_types.specs.declared.levels.Effects.{Effects}
use Rattle.c_tree.specs.declared.statements.Tree.{Tree}
use Rattle.core_unit.specs.Typed.{Tables}
use Rattle.type_rules.specs.Reading.{Read, Good, Bad}
use Rattle.type_rules.specs.Seen.{Seen}
use Rattle.type_rules.specs.Units.{opening, read_unit, reserved_scope}
use Rattle.type_laws.proofs.FileScope.{VariablesKeep, IsSound, externals_left}
use Rattle.type_laws.proofs.Formed.{IsFormed}
use Rattle.type_laws.proofs.Functions.{IsFiled}
use Rattle.type_laws.proofs.Left.{Left}
use Rattle.type_laws.proofs.Variables.{variable_left}
use Rattle.type_laws.proofs.Triples.{Each, IsLawfulEntity, IsKnownEntity, Lawful}

reserved_lawful : Each (λ entry. IsLawfulEntity [] 0 entry.1) reserved_scope
unfolding IsFormed
reserved_lawful = (
  tt,
  (
    tt,
    (
      tt,
      (
        tt,
        (
          tt,
          (
            omega arith,
            (
              omega arith,
              (
                omega arith,
                (
                  omega arith,
                  (
                    omega arith,
                    (
                      omega arith,
                      (
                        omega arith,
                        (
                          omega arith,
                          (omega arith, (omega arith, (omega arith, (omega arith, (omega arith, (omega arith, (omega arith, tt))))))),
                        ),
                      ),
                    ),
                  ),
                ),
              ),
            ),
          ),
        ),
      ),
    ),
  ),
)

reserved_known : (u : Tables) → Each (λ entry. IsKnownEntity u entry.1) reserved_scope
reserved_known u =
    (tt, (tt, (tt, (tt, (tt, (tt, (tt, (tt, (tt, (tt, (tt, (tt, (tt, (tt, (tt, (tt, (tt, (tt, (tt, (tt, tt))))))))))))))))))))

pub opening_lawful : (source marks : List ℕ) (whole : List Effects) → Each (λ byte. byte < 256) source → Each (λ e. conflict (e ∷ []) ≡ false) whole
    → Lawful (opening source marks whole)
opening_lawful source marks whole bytes fits = record {
  bytes = bytes;
  scoped = omega arith;
  entities = (tt, (reserved_lawful, tt));
  functions_formed = tt;
  open_are_empty = λ k s e m. absurd (cc);
  complete_have_words = λ k s members e m. absurd (cc);
  members_lawful = λ k s members e m. absurd (cc);
  sized = λ k s members e m. absurd (cc);
  few = tt;
  statics_stand = λ few. omega arith;
  threads_stand = λ few. omega arith;
  tags_lawful = record {
    inside = λ name k opened e. absurd (cc);
    unbegun = λ name k e. absurd (cc);
    apart = λ m n k a b e f. absurd (cc);
  };
  ranked = record { rank = λ k. 0; bound = 1; below = λ k. omega arith; falls = λ number. tt };
  variables_solid = tt;
  objects_known = record {
    static_row = record { each = tt; apart = tt };
    thread_row = record { each = tt; apart = tt };
    among = λ number info known. absurd (cc);
    fewer = omega arith;
  };
  whole_fits = fits;
}

opening_filed : (source marks : List ℕ) (whole : List Effects) → IsFiled (opening source marks whole)
opening_filed source marks whole = record {
  knows = λ u leads. (tt, (reserved_known u, tt));
  bodied = λ i f body e is few u leads. absurd (cc);
  valued = λ short u leads small. (tt, tt);
  defined = record { apart = tt; bodies = tt; all = λ number f body there is. absurd (cc) };
}

opening_sound : (source marks : List ℕ) (whole : List Effects) → IsSound (opening source marks whole)
opening_sound source marks whole = record { filed = opening_filed source marks whole; agrees = λ name t storage n is. absurd (cc) }

-- what is true of all that was seen of a unit
pub record IsRead (s : Seen) : Type 0 where
  pub lawful : Lawful s
  pub filed : IsFiled s

variables_keep : VariablesKeep
variables_keep d here s lawful makes none at = variable_left d here s lawful makes none at

pub unit_is_read : (source marks : List ℕ) (whole : List Effects) (tree : Tree) (s : Seen) → Each (λ byte. byte < 256) source
    → Each (λ e. conflict (e ∷ []) ≡ false) whole → read_unit source marks whole tree ≡ Good tt s → IsRead s
unit_is_read source marks whole tree s bytes fits is =
    of (read_unit source marks whole tree) is
    (externals_left variables_keep tree.externals (opening source marks whole) (opening_lawful source marks whole bytes fits) (opening_sound source marks whole))
  where
    of : (r : Read (Unit {0})) → r ≡ Good tt s → Left {A = Unit {0}} (λ a t. IsSound t) (opening source marks whole) r → IsRead s
    of (Bad number place) e h = absurd (cc)
    of (Good a t) e h = subst IsRead (seen_is e) (record { lawful = h.holds.lawful; filed = h.holds.known.filed })
      where
        seen_is : ◌≡◌ {A = Read (Unit {0})} (Good a t) (Good tt s) → t ≡ s
        seen_is e = cc
