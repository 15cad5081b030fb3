use Rattle.m68k_results.proofs.row_data.+turns.Given as goal

-- the places left
abbrev pub decreases-turns : goal.decreases-turns
decreases-turns l = l.places
