use Rattle.std.proofs.Common.{sym, ◌∙◌, ap, if◌then◌else◌}
use Rattle.c_text.specs.declared.TokenKind.TheVariants.{Name, Keyword}
use Rattle.c_text.proofs.FirstBytes.{front_name}
use Rattle.c_text.proofs.scan.name.Goals as goal

pub returns-then-is_keyword : goal.returns-then-is_keyword
returns-then-is_keyword c =
    front_name c.args.left.now c.name_length-length.result Keyword c.requires c.name_length-length.ensures.value
    (ap (λ t. if t then Keyword else Name) (sym c.is_keyword.ensures ∙ c.if-is_keyword.true))

pub returns-else-is_keyword : goal.returns-else-is_keyword
returns-else-is_keyword c =
    front_name c.args.left.now c.name_length-length.result Name c.requires c.name_length-length.ensures.value
    (ap (λ t. if t then Keyword else Name) (sym c.is_keyword.ensures ∙ c.if-is_keyword.false))
