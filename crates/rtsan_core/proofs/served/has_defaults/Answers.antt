-- Lists without elements are empty.
use Rattle.std.proofs.Common.{rules, ◌≡◌, ◌∙◌, length, sym}
use Rattle.rtsan_core.proofs.Defaults.{no_items}
use Rattle.rtsan_core.proofs.served.has_defaults.Goals as goal

pub returns : goal.returns
returns c =
    let no_args : length c.as_slice.result.now ≡ 0 = search rules in
    let no_schedule : length c.as_slice-2.result.now ≡ 0 = search rules in (
      λ waits. record {
        options = search rules;
        suppressions = search rules;
        entry = search rules;
        args = sym c.as_slice.ensures ∙ no_items c.as_slice.result.now no_args;
        schedule = sym c.as_slice-2.ensures ∙ no_items c.as_slice-2.result.now no_schedule;
        events = search rules;
        wait_limit = search rules;
      },
      λ defaults. search rules,
    )
