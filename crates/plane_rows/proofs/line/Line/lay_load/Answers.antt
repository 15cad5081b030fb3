use Rattle.std.proofs.Common.{◌≡◌, ◌≤◌, ◌∙◌, ℕ, Bool, List, slice_index, sym, ap, subst}
use Rattle.planes.specs.declared.load.Load.{Load}
use Rattle.planes.specs.PlaneBit.{load_of}
use Rattle.plane_rows.specs.code.Words.{spread_bits}
use Rattle.plane_rows.proofs.Pairs.{spread_paired}
use Rattle.plane_rows.proofs.Loading.{spread_at, spread_few, laid_shows}
use Rattle.plane_rows.proofs.line.Line.lay_load.Goals as goal

few_of : (bytes : List ℕ) (hires : Bool) (a b c x : ℕ) → bytes ≡ spread_bits hires a b c → slice_index bytes x ≤ 21
few_of bytes hires a b c x is = subst (λ (l : List ℕ). slice_index l x ≤ 21) (sym is) (spread_few hires a b c x)

pub lay-requires-clause-few : goal.lay-requires-clause-few
lay-requires-clause-few c x = few_of _ _ _ _ _ x (c.as_flattened.ensures.value ∙ c.spread-odd_bytes.ensures)

pub lay-requires-2-clause-few : goal.lay-requires-2-clause-few
lay-requires-2-clause-few c x = few_of _ _ _ _ _ x (c.as_flattened-2.ensures.value ∙ c.spread-even_bytes.ensures)

pub lay-requires-clause-pairs : goal.lay-requires-clause-pairs
lay-requires-clause-pairs c low = spread_paired _ _ _ _ _ (c.as_flattened.ensures.value ∙ c.spread-odd_bytes.ensures) low

pub lay-requires-2-clause-pairs : goal.lay-requires-2-clause-pairs
lay-requires-2-clause-pairs c low = spread_paired _ _ _ _ _ (c.as_flattened-2.ensures.value ∙ c.spread-even_bytes.ensures) low

pub returns : goal.returns
returns c loads h con1 odd even is =
    let load : Load = load_of h c.args.latches.now con1 c.args.hires in
    record {
      odd = laid_shows 1 c.args.odd loads load c.as_flattened.result.now c.args.self.now.odd.shown c.lay.new.self.shown
          (record {
            first = sym odd;
            second = sym odd;
            third = sym odd;
            spread = λ (x : ℕ). ap (λ (l : List ℕ). slice_index l x) (c.as_flattened.ensures.value ∙ c.spread-odd_bytes.ensures) ∙ spread_at _ _ _ _ x;
            over = c.lay.ensures.shown;
          }) is.odd;
      even = laid_shows 2 c.args.even loads load c.as_flattened-2.result.now c.args.self.now.even.shown c.lay-2.new.self.shown
          (record {
            first = sym even;
            second = sym even;
            third = sym even;
            spread = λ (x : ℕ). ap (λ (l : List ℕ). slice_index l x) (c.as_flattened-2.ensures.value ∙ c.spread-even_bytes.ensures) ∙ spread_at _ _ _ _ x;
            over = c.lay-2.ensures.shown;
          }) is.even;
    }
