-- A turn puts the words of one page more.
use Rattle.std.proofs.Common.{◌≡◌, ◌+◌, ◌-◌, ◌*◌, ◌<◌, ℕ, List, length, subst, ap, sym, ◌∙◌, arith, rules}
use Rattle.mem_versions.specs.code.Replay.{HoldsPages}
use Rattle.mem_versions.proofs.ReplayLaws.{HoldsPages-more, lent_back, length-put}
use borrow.Rule.Slice.PartMut.{put_mid}
use Rattle.mem_versions.proofs.replayed.put_pages.Goals as goal

pub loop-index-preserved : goal.loop-index-preserved
loop-index-preserved c =
    let base = c.args.base.now in
    let numbers = c.args.numbers.now in
    let i = c.loop-index.index in
    let items = c.loop-index.words.items in
    let words = c.deref_mut.result.now in
    let part = c.copy_from_slice.new.self in
    let now = put_mid (256 * i) (256 * i + 256 - 256 * i) words part in
    let value : words ≡ items = c.deref_mut.ensures.value in
    let room : length words ≡ 256 * length numbers = ap length value ∙ c.loop-index.invariant.room in
    let within : i < length numbers = search rules in
    let size : length part ≡ 256 = ap length c.copy_from_slice.ensures.after ∙ c.page-page.ensures.size in
    let same : length now ≡ length words = length-put (256 * i) (256 * i + 256 - 256 * i) words part (omega (arith, size)) (omega (arith, within, room)) in
    let back = lent_back c.loop-index.words.len items now (same ∙ ap length value) (search rules) in
    let before : HoldsPages base numbers words i = subst (λ (ws : List ℕ). HoldsPages base numbers ws i) (sym value) c.loop-index.invariant.begun in
    record {
      room = ap length back ∙ same ∙ room;
      begun = subst (λ (ws : List ℕ). HoldsPages base numbers ws (i + 1)) (sym back)
          (HoldsPages-more base numbers words part i (256 * i + 256 - 256 * i) before within room
          (c.copy_from_slice.ensures.after ∙ c.page-page.ensures.words) size);
    }
