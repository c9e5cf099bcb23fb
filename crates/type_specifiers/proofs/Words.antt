-- Type words that leave another one as it is.
use Rattle.std.proofs.Common.{◌≡◌, Option, Some, None, refl, sym, ◌∙◌, ap}
use Rattle.c_tree.specs.declared.words.TypeWord.TheVariants as type_word
use Rattle.eff_types.specs.declared.types.CType.{CType}
use Rattle.type_rules.specs.Specifiers.{or_int, type_with}
use Rattle.type_rules.specs.declared.specifiers.Specifiers.{Specifiers}

pub int_is : (kind : Option CType) → or_int kind ≡ type_with type_word.Int kind
int_is (Some t) = refl
int_is None = refl

pub signed_is : (kind : Option CType) → or_int kind ≡ type_with type_word.Signed kind
signed_is (Some t) = refl
signed_is None = refl

-- another one stays
pub kept_word : (b : Specifiers) (t : CType) → b.kind ≡ Some t → b ≡ record b { kind = Some (or_int b.kind) }
kept_word b t e = ap (λ kind. record b { kind = kind }) (e ∙ ap (λ kind. Some (or_int kind)) (sym e))

pub ruleset plain_words = (int_is, signed_is, kept_word)
