-- The log at a band's end: the memory is cut, and the next band begins.
use Rattle.std.proofs.Common.{◌≡◌, ◌≤◌, ◌<◌, ℕ, zero, suc, ◌+◌, ◌-◌, true, not, nat_lt, List, [], ◌++◌, refl, ap, ◌∙◌, subst, arith}
use Rattle.std.proofs.lemmas.Bool.Decides.{nat_tests}
use Rattle.std.proofs.lemmas.List.Elements.{filter-append}
use Rattle.mem_versions.specs.MemoryAt.{memory_at, writes_from}
use Rattle.mem_versions.specs.declared.write.Write.{Write}
use Rattle.serial_model.specs.declared.bus.Made.{Made}
use Rattle.serial_model.specs.declared.bus.Made.TheVariants as M
use Rattle.serial_bands.specs.declared.event.Event.{Event}
use Rattle.serial_bands.specs.Run.{RunValue, run_memory}
use Rattle.serial_bands.specs.Clock.{made_at}
use Rattle.serial_bands.specs.Bands.{begun, IsBand}
use Rattle.serial_bands.specs.BusReads.{fetched_count, latched_words}
use Rattle.serial_bands.specs.Stores.{stores_of, stores_at, stores_from}
use Rattle.serial_bands.specs.OpenBand.{IsOpen, waiting_events}
use Rattle.serial_bands.specs.Fetches.{fetches_in}
use Rattle.serial_bands.proofs.BandOrder.{begun_in_band, counted}
use Rattle.serial_bands.proofs.BandRanges.{open_is_band}
use Rattle.serial_bands.proofs.Fetches.{fetches_are_latched}
use Rattle.serial_bands.proofs.Storing.{memory_by_stores}
use Rattle.picture_log.specs.Log.{waiting_list, IsGrowing, size_to}
use Rattle.picture_log.proofs.Logging.{growing_of}
use Rattle.picture_log.specs.LogLaws.{LogCuts, NumberFits, FetchesAreFew}

-- no store of a clock below a cut is left by it
is_below : (c to : ℕ) → c < to → nat_lt c to ≡ true
is_below c to less = grind (arith, nat_tests, less)

none_left : (c to : ℕ) (made : Made) (memory : List ℕ) → c < to → writes_from to (stores_of c made memory) ≡ []
none_left c to M.Nothing memory less = refl
none_left c to (M.Wrote reg word by) memory less = refl
none_left c to (M.Read reg by) memory less = refl
none_left c to (M.Stored at half word) memory less = rw (is_below c to less) refl
none_left c to (M.Plane plane at) memory less = refl
none_left c to (M.Sprite sprite second at) memory less = refl

all_cut : (run : RunValue) (c n to : ℕ) → c + n ≤ to → writes_from to (stores_from run c n) ≡ []
unfolding stores_from
all_cut run c zero to most = refl
all_cut run c (suc n) to most =
    filter-append (λ (write : Write). not (nat_lt write.clock to)) (stores_from run c n) (stores_at run (c + n))
    ∙ ap (λ l. l ++ writes_from to (stores_at run (c + n))) (all_cut run c n to (omega (arith, most)))
    ∙ none_left (c + n) to (made_at run (c + n)) (run_memory run (c + n)) (omega (arith, most))

memory_there : (run : RunValue) (from to : ℕ) → from ≤ to
    → memory_at to (run_memory run from) (stores_from run from (to - from)) ≡ run_memory run to
memory_there run from to order =
    let n : ℕ = to - from in
    let here : from + n ≡ to = omega (arith, order) in
    subst (λ k. memory_at k (run_memory run from) (stores_from run from n) ≡ run_memory run k) here
    (memory_by_stores run from n n (omega arith))

none_there : (run : RunValue) (from to : ℕ) → from ≤ to → writes_from to (stores_from run from (to - from)) ≡ []
none_there run from to order = all_cut run from (to - from) to (omega (arith, order))

pub log_cuts : LogCuts
log_cuts run to log chip is =
    let from : ℕ = log.band.from in
    let kept : IsOpen run log.band.number from to log.band.beam log.band.opening log.band.events (size_to run from to) chip = is.kept in
    let band : IsBand run log.band.number from to =
    open_is_band run log.band.number from to log.band.beam log.band.opening log.band.events (size_to run from to) chip kept is.begin in
    let order : from ≤ to = (let less : from < to = kept.order in omega (arith, less)) in
    record {
      later = (let less : from < to = kept.order in omega (arith, less));
      from = refl;
      number = begun_in_band run log.band.number from to to band kept.order (omega arith);
      begin = is.begin;
      waits = is.waits;
      events = refl;
      base =
          ap (λ base. memory_at to base chip.writes) kept.base
          ∙ ap (λ writes. memory_at to (run_memory run from) writes) kept.writes
          ∙ memory_there run from to order;
      writes = ap (λ writes. writes_from to writes) kept.writes ∙ none_there run from to order;
      last = refl;
    }

pub number_fits : NumberFits
number_fits run to log chip is =
    let from : ℕ = log.band.from in
    let less : from < to = is.kept.order in
    let number : begun run from ≡ log.band.number = is.kept.number in
    omega (arith, counted run from, less, number)

pub fetches_are_few : FetchesAreFew
fetches_are_few run to log chip is before =
    let growing : IsGrowing run to log.band log.waiting chip = growing_of run to log chip is before in
    let events : List Event = log.band.events in
    let first : fetches_in log.shadow ≤ fetched_count (events ++ waiting_list log.waiting) =
    fetches_are_latched (events ++ waiting_list log.waiting) log.shadow is.left in
    let same : fetched_count (events ++ waiting_list log.waiting) ≡ latched_words run log.band.from to =
    ap (λ l. fetched_count (events ++ l)) growing.waits ∙ ap (λ l. fetched_count (l ++ waiting_events run to)) growing.kept.log in
    omega (arith, first, same)
