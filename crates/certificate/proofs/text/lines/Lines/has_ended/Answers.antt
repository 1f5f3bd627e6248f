use Rattle.certificate.proofs.LinesLeft.{end_in-left}
use Rattle.certificate.proofs.text.lines.Lines.has_ended.Goals as goal

pub returns : goal.returns
returns c = let l = c.args.self.now in end_in-left l.text.now l.start l.at l.left l.within
