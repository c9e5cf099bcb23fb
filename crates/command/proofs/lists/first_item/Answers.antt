use Rattle.std.proofs.Common.{◌==◌, Some, None}
use Rattle.std.proofs.lemmas.Str.Pattern.{split_once_first}
use Rattle.std.proofs.lemmas.List.Splits.{slice_split_first}
use Rattle.command.proofs.Separated.{items_of_whole}
use Rattle.command.proofs.lists.first_item.Goals as goal

pub returns-in-None-clause-parts : goal.returns-in-None-clause-parts
returns-in-None-clause-parts c =
    items_of_whole c.args.separator c.args.text.now
    (split_once_first c.args.separator c.args.text.now None c.in-None.ensures.cases c.requires)

pub returns-in-Some-clause-parts : goal.returns-in-Some-clause-parts
returns-in-Some-clause-parts c =
    let cut = split_once_first c.args.separator c.args.text.now (Some (c.in-Some.item, c.in-Some.rest)) c.in-Some.ensures.cases c.requires in
    rw (cut.1, cut.2) (slice_split_first (λ byte. byte == c.args.separator) c.args.text.now 0 cut.0)
