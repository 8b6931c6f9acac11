use Rattle.line.proofs.Spots.{no_spot, refused_at, refused_only}
use Rattle.line.proofs.refused.write_refusal.Goals as goal

pub returns-in-Malformed : goal.returns-in-Malformed
returns-in-Malformed c = refused_at _ _ c.said-number.ensures.0 _ _ _ _ _ _ _ _ c.put_text-said.ensures c.add_decimal-numbered.ensures.puts _ _ _ c.in-Malformed.is c.put_spot.ensures

pub returns-in_default : goal.returns-in_default
returns-in_default c = refused_only c.args.r _ c.said-number.ensures.0 _ _ _ _ _ _ _ _ c.put_text-said.ensures c.add_decimal-numbered.ensures.puts (no_spot c.args.r c.in_default.not-Malformed) c.put_line_feed.ensures
