-- Bands that are not yet closed.
use Rattle.std.proofs.Common.{◌≡◌, ◌<◌, ℕ, suc, ◌+◌, ◌-◌, false, List, ◌++◌, length, refl, ap, ◌∙◌, sym, subst, arith, inl, inr, length-append}
use Rattle.std.proofs.lemmas.Bool.{cases_eq}
use Rattle.mem_versions.specs.declared.write.Write.{Write}
use Rattle.serial_bands.specs.Run.{RunValue, beam_at}
use Rattle.serial_bands.specs.Clock.{bytes_at, bus_touch_at, write_alone}
use Rattle.serial_bands.specs.Bands.{begins}
use Rattle.serial_bands.specs.BandShown.{bytes_from}
use Rattle.serial_bands.specs.RightJob.{bus_events, events_from, events_of}
use Rattle.serial_bands.specs.Stores.{stores_at, stores_from}
use Rattle.serial_bands.specs.OpenBand.{clock_events, waiting_events, BandOpens, BandGoesOn, BandCloses}
use Rattle.serial_bands.proofs.Ranges.{events_in_range, events_of_one_more}
use Rattle.serial_bands.proofs.Storing.{view_has_memory}

one_clock : (c : ℕ) → c + 1 - c ≡ 1
one_clock c = omega arith

none_later : (c : ℕ) → c + 0 ≡ c
none_later c = omega arith

one_of_bytes : (run : RunValue) (c : ℕ) → bytes_from run c 1 ≡ bytes_at run c
unfolding bytes_from
one_of_bytes run c = ap (λ k. bytes_at run k) (none_later c)

one_of_stores : (run : RunValue) (c : ℕ) → stores_from run c 1 ≡ stores_at run c
unfolding stores_from
one_of_stores run c = ap (λ k. stores_at run k) (none_later c)

pub band_opens : BandOpens
band_opens run c opening chip here running stands base writes = record {
  order = omega arith;
  number = refl;
  begin = here;
  inner = λ k after before. absurd (omega (arith, after, before));
  running = running;
  place = refl;
  stands = stands;
  log = ap (λ n. events_of run c n) (sym (one_clock c));
  size = ap (λ bytes. length bytes) (sym (ap (λ n. bytes_from run c n) (one_clock c) ∙ one_of_bytes run c));
  base = base;
  writes = writes ∙ sym (ap (λ n. stores_from run c n) (one_clock c) ∙ one_of_stores run c);
}

-- a clock more
more_bytes : (run : RunValue) (from n : ℕ) → length (bytes_from run from (suc n)) ≡ length (bytes_from run from n) + length (bytes_at run (from + n))
unfolding bytes_from
more_bytes run from n = length-append (bytes_from run from n) (bytes_at run (from + n))

more_stores : (run : RunValue) (from n : ℕ) → stores_from run from (suc n) ≡ stores_from run from n ++ stores_at run (from + n)
unfolding stores_from
more_stores run from n = refl

inside : (run : RunValue) (from c : ℕ) → ((k : ℕ) → from < k → k < c → begins run k ≡ false) → begins run c ≡ false
    → (k : ℕ) → from < k → k < c + 1 → begins run k ≡ false
inside run from c inner here k after before =
    elim (cases_eq k c) [
      | inl e ↦ subst (λ i. begins run i ≡ false) (sym e) here
      | inr other ↦ (let o : k ≡ c → ⊥ = other in inner k after (omega (arith, before)))
    ]

still_running : (run : RunValue) (c : ℕ) → ((k : ℕ) → k < c → (beam_at run k).frame < run.script.frames)
    → (beam_at run c).frame < run.script.frames → (k : ℕ) → k < c + 1 → (beam_at run k).frame < run.script.frames
still_running run c running here k before =
    elim (cases_eq k c) [
      | inl e ↦ subst (λ i. (beam_at run i).frame < run.script.frames) (sym e) here
      | inr other ↦ (let o : k ≡ c → ⊥ = other in running k (omega (arith, before)))
    ]

more_events : (run : RunValue) (from c : ℕ) → from < c
    → events_from run from (c + 1 - from - 1)
    ≡ events_from run from (c - from - 1) ++ (waiting_events run c ++ clock_events run c)
more_events run from c order =
    let n : ℕ = c - from - 1 in
    let count : c + 1 - from - 1 ≡ suc n = omega arith in
    let last : from + n ≡ c - 1 = omega arith in
    let here : from + suc n ≡ c = omega arith in
    ap (λ k. events_from run from k) count
    ∙ events_of_one_more run from n
    ∙ ap (λ k. events_from run from n ++ (bus_events k (write_alone (bus_touch_at run k)) ++ events_from run (from + suc n) 0)) last
    ∙ ap (λ k. events_from run from n ++ (waiting_events run c ++ events_from run k 0)) here

pub band_goes_on : BandGoesOn
band_goes_on run n from c beam opening events bytes chip grown open_band none going base writes =
    let before : from < c = open_band.order in
    let count : ℕ = c - from in
    let next : c + 1 - from ≡ suc count = omega arith in
    let here : from + count ≡ c = omega arith in
    record {
      order = omega arith;
      number = open_band.number;
      begin = open_band.begin;
      inner = inside run from c open_band.inner none;
      running = still_running run c open_band.running going;
      place = open_band.place;
      stands = open_band.stands;
      log =
          ap (λ l. l ++ (waiting_events run c ++ clock_events run c)) (open_band.log ∙ events_in_range run from c before)
          ∙ sym (more_events run from c before)
          ∙ sym (events_in_range run from (c + 1) (omega (arith, before)));
      size =
          ap (λ k. k + length (bytes_at run c)) open_band.size
          ∙ ap (λ k. length (bytes_from run from count) + length (bytes_at run k)) (sym here)
          ∙ sym (more_bytes run from count)
          ∙ ap (λ k. length (bytes_from run from k)) (sym next);
      base = base ∙ open_band.base;
      writes =
          writes
          ∙ ap (λ (l : List Write). l ++ stores_at run c) open_band.writes
          ∙ ap (λ k. stores_from run from count ++ stores_at run k) (sym here)
          ∙ sym (more_stores run from count)
          ∙ ap (λ k. stores_from run from k) (sym next);
    }

pub band_closes : BandCloses
band_closes run n from c beam opening events bytes chip view open_band end is =
    record {
      band = record {
        order = open_band.order;
        number = open_band.number;
        begin = open_band.begin;
        inner = open_band.inner;
        end = end;
        running = open_band.running;
      };
      place = open_band.place;
      stands = open_band.stands;
      log = open_band.log;
      memory = view_has_memory run from c chip view (let order : from < c = open_band.order in omega arith) open_band.base open_band.writes is;
      size = open_band.size;
    }
