-- A required argument that takes one value has one, where the words of its command have no fault.
use Rattle.std.proofs.Common.{◌≡◌, ℕ, ◌++◌, ◌&&◌, Bool, true, false, cond, zero, suc, List, [], ◌∷◌, length, drop, Option, Some, None, is_some, option_and_then, refl}
use Rattle.std.specs.Prelude.{encode_utf8, fold, slice_get, ⊤}
use Rattle.std.specs.List.{find}
use Rattle.std.specs.Option.{option_map_or}
use Rattle.std.specs.Str.{bytes_eq, chars}
use Rattle.clap.specs.Kinds.{Kinds, or_else}
use Rattle.clap.specs.Faults.{bundle_step_fault, flag_word_fault, flags_fault, long_fault, option_fault, other_fault, react_fault, positional_fault, short_fault, settle_fault, step_fault, stray_fault, turn_fault, use_fault, walk_fault, word_fault}
use Rattle.clap.specs.Facts.{explicit_source}
use Rattle.clap.specs.declared.error.kind.ErrorKind.TheVariants as kind
use Rattle.clap.specs.Lexer.{long_of, short_of}
use Rattle.clap.specs.Walk.{Held, Names, Outcome, Row, Rule, Step, Text, Waiting, Walk, after_flag, after_step, arg_by_id, arg_by_index, arg_by_long, arg_by_short, attached_value, bundle_met, bundle_step, flag_met, first_of, is_pending, long_met, long_or_other, more_values, option_met, option_word, plain_word, pushed, reacted, settled, settled_rows, short_met, short_or_plain, done, waits, plain, refused, idle, option, positional, next, trailing, subcommand, value, subcommand_met, subcommand_or_other, takes_several, takes_values, to_positional, used, used_by_id, walked, walked_from, with_values, without, word_met}
use Rattle.clap.specs.declared.builder.value_parser.Reading.{Reading}
use Rattle.clap.specs.declared.parser.matches.ValueSource.{ValueSource}
use Rattle.clap.specs.Simple.{Shape}
use Rattle.clap.specs.Takes.{is_given}

-- the first passes, and then the second
pub split : (a b : Kinds) → or_else a b ≡ [] → (a ≡ []) × (b ≡ [])
split [] b e = (refl, e)
split (k ∷ ks) b e = cc

left_nil : (xs ys : List Text) → xs ++ ys ≡ [] → xs ≡ []
left_nil [] ys e = refl
left_nil (x ∷ xs) ys e = cc

module _ (id : Text) where
  -- each row of that name has a value
  abbrev pub Filled : List Row → Type 0
  Filled [] = ⊤
  Filled (r ∷ rs) = (bytes_eq r.id id ≡ true → r.values ≡ [] → ⊥) × Filled rs

  pub Filled-without : (x : Text) (rows : List Row) → Filled rows → Filled (without x rows)
  Filled-without x [] h = h
  Filled-without x (r ∷ rs) h = go (bytes_eq r.id x) (Filled-without x rs h.1)
    where
      go : (b : Bool) → Filled (without x rs) → Filled (cond b ([] ++ rs) (r ∷ without x rs))
      go true rest = h.1
      go false rest = (h.0, rest)

  pub Filled-with_values : (x : Text) (how : Reading) (s : ValueSource) (vs : List Text) (rows : List Row) → (vs ≡ [] → ⊥) → Filled rows → Filled (with_values x how s vs rows)
  Filled-with_values x how s vs [] some h = ((λ same none. some none), tt)
  Filled-with_values x how s vs (r ∷ rs) some h = go (bytes_eq r.id x) (Filled-with_values x how s vs rs some h.1)
    where
      go : (b : Bool) → Filled (with_values x how s vs rs) → Filled (cond b (more_values s vs r ++ rs) (r ∷ with_values x how s vs rs))
      go true rest = ((λ same none. h.0 same (left_nil r.values vs none)), h.1)
      go false rest = (h.0, rest)

  -- where such a row is given, its first value is there
  pub Filled-given : (rows : List Row) → Filled rows → is_given id rows ≡ true → is_some (first_of id rows) ≡ true
  Filled-given [] h given = cc
  Filled-given (r ∷ rs) h given = go (bytes_eq r.id id) refl given (Filled-given rs h.1)
    where
      first : (vs : List Text) → (vs ≡ [] → ⊥) → is_some (slice_get vs 0) ≡ true
      first [] some = absurd (some refl)
      first (v ∷ vs) some = refl

      go : (b : Bool) → bytes_eq r.id id ≡ b → option_map_or (λ (x : Row). explicit_source x.source) (cond b (Some r) (find (λ x. bytes_eq x.id id) rs)) false ≡ true
          → (is_given id rs ≡ true → is_some (first_of id rs) ≡ true)
          → is_some (option_and_then (λ (x : Row). slice_get x.values 0) (cond b (Some r) (find (λ x. bytes_eq x.id id) rs))) ≡ true
      go true e given rest = first r.values (h.0 e)
      go false e given rest = rest given

  -- a use of the argument that has no fault leaves the rows so
  abbrev pub IsFilling : Rule → Type 0
  IsFilling a = (again : Bool) (values : List Text) (rows : List Row) → use_fault again a values rows ≡ [] → Filled rows → Filled (used a values rows)

  abbrev pub AreFilling : Option Rule → Type 0
  AreFilling None = ⊤
  AreFilling (Some a) = IsFilling a

  module _ (s : Shape) (fine : (p : Rule → Bool) → AreFilling (find p s.rules)) where
    pub Filled-settled : (h : Held) → settle_fault s.rules s.args_override_self h ≡ [] → Filled h.rows → Filled (settled s.rules h).rows
    Filled-settled h e filled = go h.pending e
      where
        by_id : (o : Option Rule) (vs : List Text) → AreFilling o → option_map_or (λ a. use_fault s.args_override_self a vs h.rows) o [] ≡ [] → Filled (used_by_id o vs h.rows)
        by_id None vs f e = filled
        by_id (Some a) vs f e = f s.args_override_self vs h.rows e filled

        go : (p : Option (Text × List Text))
            → option_map_or (λ p. option_map_or (λ a. use_fault s.args_override_self a p.1 h.rows) (arg_by_id s.rules p.0) []) p [] ≡ []
            → Filled (settled_rows s.rules p h.rows)
        go None e = filled
        go (Some p) e = by_id (arg_by_id s.rules p.0) p.1 (fine _) e

    Filled-reacted : (a : Rule) (values : List Text) (h : Held) → IsFilling a → react_fault s.rules s.args_override_self a values h ≡ [] → Filled h.rows → Filled (reacted s.rules a values h).rows
    Filled-reacted a values h f e filled =
        let parts = split (settle_fault s.rules s.args_override_self h) (use_fault s.args_override_self a values (settled s.rules h).rows) e in
        f s.args_override_self values (settled s.rules h).rows parts.1 (Filled-settled h parts.0 filled)

    Filled-option : (a : Rule) (v : Option Text) (h : Held) → IsFilling a → option_fault s.rules s.args_override_self a v h ≡ [] → Filled h.rows → Filled (option_met s.rules a v h).0.rows
    Filled-option a (Some v) h f e filled = Filled-reacted a (v ∷ []) h f e filled
    Filled-option a None h f e filled = Filled-settled h e filled

    Filled-long : (o : Option Rule) (v : Option Text) (h : Held) → AreFilling o → long_fault s.rules s.args_override_self o v h ≡ [] → Filled h.rows → Filled (long_met s.rules o v h).0.rows
    Filled-long None v h f e filled = filled
    Filled-long (Some a) v h f e filled = go (takes_values a) e
      where
        flag : (v : Option Text) → cond (is_some v) (kind.TooManyValues ∷ []) (react_fault s.rules s.args_override_self a [] h) ≡ [] → Filled (flag_met s.rules a v h).0.rows
        flag (Some v) e = filled
        flag None e = Filled-reacted a [] h f e filled

        go : (b : Bool) → cond b (option_fault s.rules s.args_override_self a v h) (cond (is_some v) (kind.TooManyValues ∷ []) (react_fault s.rules s.args_override_self a [] h)) ≡ []
            → Filled (cond b (option_met s.rules a v h) (flag_met s.rules a v h)).0.rows
        go true e = Filled-option a v h f e filled
        go false e = flag v e

    Filled-short : (o : Option Rule) (rest : Text) (h : Held) (faults : Held → Kinds) (go_on : Held → Held × Outcome)
        → ((h : Held) → faults h ≡ [] → Filled h.rows → Filled (go_on h).0.rows) → AreFilling o
        → short_fault s.rules s.args_override_self o rest h faults ≡ [] → Filled h.rows → Filled (short_met s.rules o rest h go_on).0.rows
    Filled-short None rest h faults go_on after f e filled = filled
    Filled-short (Some a) rest h faults go_on after f e filled = go (takes_values a) e
      where
        go : (b : Bool) → cond b (option_fault s.rules s.args_override_self a (attached_value rest) h)
            (or_else (react_fault s.rules s.args_override_self a [] h) (faults (reacted s.rules a [] h))) ≡ []
            → Filled (cond b (option_met s.rules a (attached_value rest) h) (go_on (reacted s.rules a [] h))).0.rows
        go true e = Filled-option a (attached_value rest) h f e filled
        go false e =
            let parts = split (react_fault s.rules s.args_override_self a [] h) (faults (reacted s.rules a [] h)) e in
            after (reacted s.rules a [] h) parts.1 (Filled-reacted a [] h f parts.0 filled)

    Filled-bundle : (k : ℕ) (flags : Text) (skip : ℕ) (so_far : Outcome) (h : Held) → flags_fault s.rules s.args_override_self k flags skip h ≡ []
        → Filled h.rows → Filled (bundle_met s.rules k flags skip so_far h).0.rows
    unfolding flags_fault bundle_met
    Filled-bundle zero flags skip so_far h e filled = filled
    Filled-bundle (suc k) flags skip so_far h e filled = go (slice_get (chars flags) 0) skip e (Filled-bundle k)
      where
        go : (o : Option ℕ) (skip : ℕ) → bundle_step_fault s.rules s.args_override_self o flags skip h (flags_fault s.rules s.args_override_self k) ≡ []
            → ((flags : Text) (skip : ℕ) (so_far : Outcome) (h : Held) → flags_fault s.rules s.args_override_self k flags skip h ≡ [] → Filled h.rows
            → Filled (bundle_met s.rules k flags skip so_far h).0.rows)
            → Filled (bundle_step s.rules o flags skip so_far h (bundle_met s.rules k)).0.rows
        go None skip e rec = filled
        go (Some x) zero e rec = let rest = drop (length (encode_utf8 x)) flags in
            Filled-short (arg_by_short s.rules x) rest h (flags_fault s.rules s.args_override_self k rest 0) (bundle_met s.rules k rest 0 done) (rec rest 0 done) (fine _) e filled
        go (Some x) (suc skip) e rec = rec (drop (length (encode_utf8 x)) flags) skip so_far h e filled

    Filled-plain : (waiting : Waiting) (word : Text) (h : Held) → Filled h.rows → Filled (plain_word s.rules waiting word h).0.rows
    Filled-plain idle word h filled = filled
    Filled-plain positional word h filled = filled
    Filled-plain (option id) word h filled = go (arg_by_id s.rules id)
      where
        go : (o : Option Rule) → Filled (option_word o id word h).0.rows
        go None = filled
        go (Some a) = filled

    Filled-after : (waiting : Waiting) (word : Text) (h : Held) (outcome : Outcome) → Filled h.rows → Filled (after_flag s.rules waiting word h outcome).0.rows
    Filled-after waiting word h done filled = filled
    Filled-after waiting word h (waits id) filled = filled
    Filled-after waiting word h plain filled = Filled-plain waiting word h filled
    Filled-after waiting word h refused filled = Filled-plain waiting word h filled

    Filled-flag : (waiting : Waiting) (word : Text) (long : Option (Text × Option Text)) (h : Held) → flag_word_fault s.rules s.args_override_self long word h ≡ [] → Filled h.rows
        → Filled (long_or_other s.rules waiting word long h).0.rows
    Filled-flag waiting word (Some p) h e filled = Filled-after waiting word _ (long_met s.rules (arg_by_long s.rules p.0) p.1 h).1 (Filled-long (arg_by_long s.rules p.0) p.1 h (fine _) e filled)
    Filled-flag waiting word None h e filled = go (short_of word) e
      where
        go : (short : Option Text) → option_map_or (λ flags. flags_fault s.rules s.args_override_self (length flags) flags h.skip (record h { skip = 0 })) short [] ≡ []
            → Filled (short_or_plain s.rules waiting word short h).0.rows
        go None e = Filled-plain waiting word h filled
        go (Some flags) e = Filled-after waiting word _ (bundle_met s.rules (length flags) flags h.skip plain (record h { skip = 0 })).1
            (Filled-bundle (length flags) flags h.skip plain (record h { skip = 0 }) e filled)

    Filled-word : (names : Names) (is_trailing : Bool) (waiting : Waiting) (position : ℕ) (word : Text) (h : Held) → word_fault s names is_trailing waiting word h ≡ [] → Filled h.rows
        → Filled (word_met s.rules names is_trailing waiting position word h).0.rows
    Filled-word names true waiting position word h e filled = filled
    Filled-word names false waiting position word h e filled = go (subcommand_met names waiting word) e
      where
        dashes : (b : Bool) → cond b [] (flag_word_fault s.rules s.args_override_self (long_of word) word h) ≡ []
            → Filled (cond b (h, trailing position) (long_or_other s.rules waiting word (long_of word) h)).0.rows
        dashes true e = filled
        dashes false e = Filled-flag waiting word (long_of word) h e filled

        go : (o : Option Text) → other_fault s o word h ≡ [] → Filled (subcommand_or_other s.rules o waiting position word h).0.rows
        go (Some name) e = filled
        go None e = dashes (bytes_eq word (45 ∷ 45 ∷ [])) e

    Filled-step : (w : Walk) (word : Text) (h : Held) (x : Step) → step_fault s w.position h x ≡ [] → Filled h.rows → Filled (after_step s.rules word w h x).held.rows
    Filled-step w word h (next waiting) e filled = filled
    Filled-step w word h (trailing position) e filled = filled
    Filled-step w word h (subcommand name) e filled = filled
    Filled-step w word h value e filled = go (arg_by_index s.rules w.position) e
      where
        held : (a : Rule) (b : Bool) → cond b [] (settle_fault s.rules s.args_override_self h) ≡ [] → Filled (pushed a.id word (cond b h (settled s.rules h))).rows
        held a true e = filled
        held a false e = Filled-settled h e filled

        go : (o : Option Rule) → option_map_or (λ a. positional_fault s.rules s.args_override_self a h) o (stray_fault s) ≡ [] → Filled (to_positional s.rules o word w h).held.rows
        go None e = filled
        go (Some a) e = held a (is_pending a h.pending && takes_several a) e

    Filled-turn : (names : Names) (w : Walk) (word : Text) → turn_fault s names w word ≡ [] → Filled w.held.rows → Filled (walked s.rules names w word).held.rows
    unfolding walked
    Filled-turn names w word e filled = go w.stopped e
      where
        go : (o : Option (Text × List Text)) → (let met = word_met s.rules names w.is_trailing w.waiting w.position word w.held in
            cond (is_some o) [] (or_else (word_fault s names w.is_trailing w.waiting word w.held) (step_fault s w.position met.0 met.1)) ≡ [])
            → Filled (walked_from s.rules names o w word).held.rows
        go (Some p) e = filled
        go None e =
            let met = word_met s.rules names w.is_trailing w.waiting w.position word w.held in
            let parts = split (word_fault s names w.is_trailing w.waiting word w.held) (step_fault s w.position met.0 met.1) e in
            Filled-step w word met.0 met.1 parts.1 (Filled-word names w.is_trailing w.waiting w.position word w.held parts.0 filled)

    pub Filled-walk : (names : Names) (w : Walk) (words : List Text) → walk_fault s names w words ≡ [] → Filled w.held.rows → Filled (fold (walked s.rules names) w words).held.rows
    unfolding walk_fault
    Filled-walk names w [] e filled = filled
    Filled-walk names w (word ∷ rest) e filled =
        let parts = split (turn_fault s names w word) (walk_fault s names (walked s.rules names w word) rest) e in
        Filled-walk names (walked s.rules names w word) rest parts.1 (Filled-turn names w word parts.0 filled)
