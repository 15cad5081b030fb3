use Rattle.foreground.proofs.fore.Fore.script_reads.Goals as goal

pub events-events-requires : goal.events-events-requires
events-events-requires g c = tt
