-- A replay that came to a halt is a run that did, once the file is named.
use Rattle.std.proofs.Common.{ℕ, Bool, List, Option, refl}
use Rattle.std.specs.declared.alloc.Global.{Global}
use Rattle.std.specs.declared.string.String.{String}
use Rattle.clap.specs.Walk.{Text}
use Rattle.command_line.specs.Telling.{in_file}
use Rattle.command_line.specs.declared.fault.Fault.{Fault}
use Rattle.command_line.specs.declared.fault.Fault.TheVariants as fault
use Rattle.meshrun.specs.Done.{HaltsReplay, HaltsRun, IsNamed}

module _ {D : Type 0} (held : D → List ℕ → Option (List ℕ)) (failures : D → ℕ) (trace : Option Text) (file : Option (String Global)) (serial replies : Bool) (certificate : Option Text)
    (text : List ℕ) (failures_old failures_new : ℕ) (old new : Option (List ℕ)) (store : D) (named : IsNamed trace file) where
  pub halts-in_file : (stop : Fault) → HaltsReplay serial text replies failures_old failures_new old new stop
      → HaltsRun held failures trace serial replies certificate failures_old failures_new old new store store (in_file file text stop)
  halts-in_file fault.SinkFailed h = (h.0, (text, h.1), refl)
  halts-in_file (fault.BadTrace _ line cause _) h = (named, (text, h.1, refl), (h.2, h.3, refl))
  halts-in_file fault.OutOfMemory h = (h.0, h.1, refl)
  halts-in_file fault.Doubled h = (h.0, (h.1, h.2, refl))
  halts-in_file (fault.Audit cause) h = (h.0, (text, h.1), (h.2, h.3, refl))
  halts-in_file (fault.BadCertificate _ line cause) h = absurd h
  halts-in_file (fault.Words error) h = absurd h
  halts-in_file (fault.Io name error) h = absurd h
