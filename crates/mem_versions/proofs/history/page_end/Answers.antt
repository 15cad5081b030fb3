-- Places do not fall, so the writes up to one to the page are to it, and those from the first that is not are to higher ones.
use Rattle.std.proofs.Common.{◌≡◌, ◌+◌, ◌/◌, ◌≢◌, ◌<◌, ◌≤◌, length, get_or, ap, arith}
use Rattle.std.proofs.lemmas.List.{get_or_default}
use Rattle.mem_versions.specs.declared.write.Write.{Write}
use Rattle.mem_versions.proofs.history.page_end.Goals as goal

pub returns-else-writes-end-2 : goal.returns-else-writes-end-2
returns-else-writes-end-2 c =
    let writes = c.args.writes.now in
    let start = c.args.start in
    let end = c.loop-end-2.end in
    let none : Write = record { clock = 0; place = 0; word = 0 } in
    record {
      some = c.loop-end-2.invariant.some;
      within = c.loop-end-2.invariant.within;
      same = c.loop-end-2.invariant.same;
      higher = λ k d from within.
          let other : (get_or writes end none).place / 256 ≢ c.args.page = c.if-writes-end-2.false in
          let same : (get_or writes end d).place ≡ (get_or writes end none).place =
          ap (λ w. w.place) (get_or_default writes end d none c.loop-end-2-test.true) in
          let first : (get_or writes start d).place / 256 ≡ c.args.page = c.requires.first d in
          let before : (get_or writes start d).place ≤ (get_or writes end d).place =
          (c.requires.order start end d (omega (arith, c.loop-end-2.invariant.some)) c.loop-end-2-test.true).0 in
          let rise : (get_or writes end d).place ≤ (get_or writes k d).place = (c.requires.order end k d from within).0 in
          omega arith;
    }

pub loop-end-preserved : goal.loop-end-preserved
loop-end-preserved c =
    let writes = c.args.writes.now in
    let start = c.args.start in
    let far = c.loop-end.end + 16 in
    let none : Write = record { clock = 0; place = 0; word = 0 } in
    let held : far < length writes = omega (arith, c.loop-end-test.true) in
    record {
      some = omega (arith, c.loop-end.invariant.some);
      within = omega arith;
      same = λ k d from below.
          let last : (get_or writes far none).place / 256 ≡ c.args.page = c.if-writes-end.true in
          let same : (get_or writes far d).place ≡ (get_or writes far none).place = ap (λ w. w.place) (get_or_default writes far d none held) in
          let first : (get_or writes start d).place / 256 ≡ c.args.page = c.requires.first d in
          let before : (get_or writes start d).place ≤ (get_or writes k d).place = (c.requires.order start k d from (omega arith)).0 in
          let rise : (get_or writes k d).place ≤ (get_or writes far d).place = (c.requires.order k far d (omega arith) held).0 in
          omega arith;
    }
