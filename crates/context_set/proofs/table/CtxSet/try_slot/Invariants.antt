use Rattle.context_set.proofs.table.CtxSet.try_slot.Given as goal

-- the step looks for what is asked
abbrev pub ghosts-look : goal.ghosts-look
ghosts-look a = record { parent = a.ask.now.parent; step = a.ask.now.step; tried = a.tried }

abbrev pub ghosts-put : goal.ghosts-put
ghosts-put a = record { parent = a.ask.now.parent; step = a.ask.now.step; tried = a.tried }
