use Rattle.certificate.proofs.Accepted.{IsTextOf-Reads}
use Rattle.certificate.proofs.text.reading.read.Goals as goal

pub returns-clause-text : goal.returns-clause-text
returns-clause-text c = IsTextOf-Reads c.read_text.result c.args.text.now c.read_text.ensures.read c.read_text.ensures.writable
