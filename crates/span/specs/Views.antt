-- The change that is read in place.
use Rattle.span.specs.declared.change.Change.{Change}
use Rattle.span.specs.declared.change.Change.TheVariants as change
use Rattle.span.specs.declared.view.ChangeView.{ChangeView}
use Rattle.span.specs.declared.view.ChangeView.TheVariants.{Put, Set, Free}

-- the change that a view shows, with the words that it lends
abbrev pub viewed : ChangeView → Change
viewed (Put slot generation words) = change.Put slot generation words.now
viewed (Set slot generation words) = change.Set slot generation words.now
viewed (Free slot generation) = change.Free slot generation
