-- The causes for which a line is at fault.
use Rattle.std.specs.Prelude.{ℕ, List, codes}
use Rattle.certificate.specs.declared.text.cause.Cause.{Cause}
use Rattle.certificate.specs.declared.text.cause.Cause.TheVariants.{Cut, Form, Limit, Set, Order, Version, Tail}

-- the word that a refusal says
abbrev pub word_of : Cause → List ℕ
word_of Cut = codes "cut"
word_of Form = codes "form"
word_of Limit = codes "limit"
word_of Set = codes "set"
word_of Order = codes "order"
word_of Version = codes "version"
word_of Tail = codes "tail"
