use Rattle.std.proofs.Common.{◌∙◌, sym}
use Rattle.std.proofs.lemmas.Bool.{false≢true}
use Rattle.certificate.proofs.ReadAgain.{class_of_number-none}
use Rattle.certificate.proofs.text.words.class_of.Goals as goal

pub returns-in_default-class_with_bytes : goal.returns-in_default-class_with_bytes
returns-in_default-class_with_bytes c n is =
    class_of_number-none c.args.version n c.in-Some.bytes (sym c.in-Some.is ∙ is) (λ e. false≢true (c.in_default-class_with_bytes.ensures.some.1 e))
