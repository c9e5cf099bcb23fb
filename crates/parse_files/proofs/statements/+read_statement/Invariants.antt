use Rattle.parse_files.proofs.statements.+read_statement.Given as goal

abbrev pub decreases-read_statement : goal.decreases-read_statement
decreases-read_statement l = l.limits.room
