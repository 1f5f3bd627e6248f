use Rattle.std.proofs.Common.{◌≡◌, nat_lt}
use Rattle.std.specs.List.{list_all}
use Rattle.span.specs.Classes.{slots_in}
use Rattle.certificate.specs.Grammar.{is_on_page}
use Rattle.certificate.proofs.text.words.is_on_page.Given as goal

-- those that are left decide
abbrev pub invariant-loop-slot : goal.invariant-loop-slot
invariant-loop-slot l = is_on_page l.class l.slots ≡ list_all (λ slot. nat_lt slot (slots_in l.class)) l.slot-iterator
