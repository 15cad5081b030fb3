use Rattle.band_log.proofs.laws.right_jobs.Goals as goal

pub returns-clause-memory : goal.returns-clause-memory
returns-clause-memory g c = λ run n k at job right. right.parts.memory k at

pub returns-clause-few : goal.returns-clause-few
returns-clause-few g c = λ run n job runnable right. c.bands_of_run.ensures.small run n job.from.0 job.to.0 runnable right.parts.band

pub returns-clause-range : goal.returns-clause-range
returns-clause-range g c = λ tint run n job drawn right shown.
    c.order_of_bands.ensures.one run n drawn.job.from.0 drawn.job.to.0 job.from.0 job.to.0 shown.shown.band right.parts.band
