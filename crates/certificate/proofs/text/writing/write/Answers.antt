use Rattle.std.proofs.Common.{rules}
use Rattle.std.proofs.lemmas.List.Elements.{recursion_from_All}
use Rattle.certificate.proofs.Rereading.{certificate_in-text}
use Rattle.certificate.proofs.Serials.{IsNamed-version_of}
use Rattle.certificate.proofs.text.writing.write.Goals as goal

pub returns-clause-read_again : goal.returns-clause-read_again
returns-clause-read_again c = search (rules, certificate_in-text, IsNamed-version_of, recursion_from_All)
