use Rattle.painter.proofs.painter.Painter.steady_from.Goals as goal

pub returns : goal.returns
returns c = record {
  attached = c.attached_pairs.ensures;
  reach = c.reach_from.ensures;
  alone = c.lone_from.ensures;
  pairs = c.is_paired_from.ensures;
}
