use Rattle.std.proofs.Common.{◌<◌, length, sym, ap, subst}
use Rattle.word_mem.specs.Replay.{IsAllowed}
use Rattle.word_mem.specs.FirstPass.{PlainParts}
use Rattle.word_mem.proofs.AccessEvents.{access_is_allowed}
use Rattle.word_mem.proofs.OnePass.{within_words, keeps_event, keeps_merge}
use Rattle.word_mem.proofs.plain.PlainPass.access.Goals as goal

pub perform-found-requires : goal.perform-found-requires
perform-found-requires c =
    let known = subst (λ (p : PlainParts). (0 < p.left) × (c.args.at < length p.opening)) (sym c.self.view_is) (c.requires.calls, c.requires.within) in
    within_words _ _ _ _ c.self.invariant _ known

pub invariant_of-self : goal.invariant_of-self
invariant_of-self c =
    let known = subst (λ (p : PlainParts). (0 < p.left) × (c.args.at < length p.opening)) (sym c.self.view_is) (c.requires.calls, c.requires.within) in
    let made = c.perform-found.ensures in
    let within = within_words _ _ _ _ c.self.invariant _ known in
    let allowed : IsAllowed c.self.inside.words.items c.perform-found.result.1 = subst (λ e. IsAllowed c.self.inside.words.items e) (sym made.event) (access_is_allowed _ _ _ _ within made.found) in
    rw (made.words, c.did.ensures) (keeps_event _ _ _ _ c.self.invariant _ _ known.0 allowed)

pub returns-clause-belongs : goal.returns-clause-belongs
returns-clause-belongs c = record {
  opens = ap (λ (p : PlainParts). p.opening) c.self.view_is;
  tells = keeps_merge _ _ _ _ (invariant_of-self c);
}
