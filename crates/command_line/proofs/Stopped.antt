-- A walk over words that have no fault stops at no `help`, where that answers with help.
use Rattle.std.proofs.Common.{◌≡◌, ◌&&◌, not, ℕ, Bool, true, false, true≢false, cond, List, [], ◌∷◌, Option, Some, None, is_some, refl, codes}
use Rattle.std.specs.Prelude.{fold, ⊤}
use Rattle.std.specs.Str.{bytes_eq}
use Rattle.clap.specs.Kinds.{or_else}
use Rattle.clap.specs.Faults.{other_fault, step_fault, turn_fault, walk_fault, word_fault}
use Rattle.clap.specs.Lexer.{long_of, short_of}
use Rattle.clap.specs.Walk.{Held, Names, Outcome, Rule, Step, Text, Waiting, Walk, after_flag, after_step, arg_by_index, long_or_other, plain_word, short_or_plain, done, waits, plain, refused, idle, option, positional, next, trailing, subcommand, value, subcommand_met, subcommand_or_other, to_positional, walked, walked_from, word_met}
use Rattle.clap.specs.Simple.{Shape}
use Rattle.clap.specs.declared.error.kind.ErrorKind.TheVariants as kind
use Rattle.command_line.proofs.Given.{split}

-- it stopped nowhere, or at another name than `help`
abbrev pub IsNotHelp : Option (Text × List Text) → Type 0
IsNotHelp None = ⊤
IsNotHelp (Some p) = bytes_eq p.0 (codes "help") ≡ false

-- the step enters no subcommand, or another than `help`
abbrev EntersNotHelp : Step → Type 0
EntersNotHelp (subcommand name) = bytes_eq name (codes "help") ≡ false
EntersNotHelp _ = ⊤

plain_enters : (c : List Rule) (waiting : Waiting) (word : Text) (h : Held) → EntersNotHelp (plain_word c waiting word h).1
plain_enters c (option id) word h = tt
plain_enters c idle word h = tt
plain_enters c positional word h = tt

after_enters : (c : List Rule) (waiting : Waiting) (word : Text) (h : Held) (outcome : Outcome) → EntersNotHelp (after_flag c waiting word h outcome).1
after_enters c waiting word h done = tt
after_enters c waiting word h (waits id) = tt
after_enters c waiting word h plain = plain_enters c waiting word h
after_enters c waiting word h refused = plain_enters c waiting word h

short_enters : (c : List Rule) (waiting : Waiting) (word : Text) (short : Option Text) (h : Held) → EntersNotHelp (short_or_plain c waiting word short h).1
short_enters c waiting word (Some flags) h = after_enters c waiting word _ _
short_enters c waiting word None h = plain_enters c waiting word h

long_enters : (c : List Rule) (waiting : Waiting) (word : Text) (long : Option (Text × Option Text)) (h : Held) → EntersNotHelp (long_or_other c waiting word long h).1
long_enters c waiting word (Some p) h = after_enters c waiting word _ _
long_enters c waiting word None h = short_enters c waiting word (short_of word) h

module _ (s : Shape) (answers : s.disable_help_subcommand ≡ false) where
  named : (name word : Text) (h : Held) → other_fault s (Some name) word h ≡ [] → bytes_eq name (codes "help") ≡ false
  named name word h e = go (bytes_eq name (codes "help")) s.disable_help_subcommand answers e
    where
      go : (b off : Bool) → off ≡ false → cond (b && not off) (kind.DisplayHelp ∷ kind.InvalidSubcommand ∷ []) [] ≡ [] → b ≡ false
      go false off is e = refl
      go true false is e = cc
      go true true is e = absurd (true≢false is)

  word_enters : (names : Names) (is_trailing : Bool) (waiting : Waiting) (position : ℕ) (word : Text) (h : Held) → word_fault s names is_trailing waiting word h ≡ []
      → EntersNotHelp (word_met s.rules names is_trailing waiting position word h).1
  word_enters names true waiting position word h e = tt
  word_enters names false waiting position word h e = go (subcommand_met names waiting word) e
    where
      dashes : (b : Bool) → EntersNotHelp (cond b (h, trailing position) (long_or_other s.rules waiting word (long_of word) h)).1
      dashes true = tt
      dashes false = long_enters s.rules waiting word (long_of word) h

      go : (o : Option Text) → other_fault s o word h ≡ [] → EntersNotHelp (subcommand_or_other s.rules o waiting position word h).1
      go (Some name) e = named name word h e
      go None e = dashes (bytes_eq word (45 ∷ 45 ∷ []))

  step_stops : (w : Walk) (word : Text) (h : Held) (x : Step) → IsNotHelp w.stopped → EntersNotHelp x → IsNotHelp (after_step s.rules word w h x).stopped
  step_stops w word h (next waiting) before enters = before
  step_stops w word h (trailing position) before enters = before
  step_stops w word h (subcommand name) before enters = enters
  step_stops w word h value before enters = go (arg_by_index s.rules w.position)
    where
      go : (o : Option Rule) → IsNotHelp (to_positional s.rules o word w h).stopped
      go None = before
      go (Some a) = tt

  turn_stops : (names : Names) (w : Walk) (word : Text) → turn_fault s names w word ≡ [] → IsNotHelp w.stopped → IsNotHelp (walked s.rules names w word).stopped
  unfolding walked
  turn_stops names w word e before = go w.stopped e before
    where
      go : (o : Option (Text × List Text)) → (let met = word_met s.rules names w.is_trailing w.waiting w.position word w.held in
          cond (is_some o) [] (or_else (word_fault s names w.is_trailing w.waiting word w.held) (step_fault s w.position met.0 met.1)) ≡ [])
          → IsNotHelp o → IsNotHelp (walked_from s.rules names o w word).stopped
      go (Some p) e stays = stays
      go None e none =
          let met = word_met s.rules names w.is_trailing w.waiting w.position word w.held in
          let parts = split (word_fault s names w.is_trailing w.waiting word w.held) (step_fault s w.position met.0 met.1) e in
          step_stops w word met.0 met.1 before (word_enters names w.is_trailing w.waiting w.position word w.held parts.0)

  pub walk_stops : (names : Names) (w : Walk) (words : List Text) → walk_fault s names w words ≡ [] → IsNotHelp w.stopped → IsNotHelp (fold (walked s.rules names) w words).stopped
  unfolding walk_fault
  walk_stops names w [] e before = before
  walk_stops names w (word ∷ rest) e before =
      let parts = split (turn_fault s names w word) (walk_fault s names (walked s.rules names w word) rest) e in
      walk_stops names (walked s.rules names w word) rest parts.1 (turn_stops names w word parts.0 before)
