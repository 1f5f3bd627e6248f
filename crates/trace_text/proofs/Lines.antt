-- The form of a line, as a function and as a relation.
use Rattle.trace_text.proofs.Names.{common_steps, ◌≡◌, ℕ, ◌<◌, ◌≤◌, ◌==◌, nat_lt, ◌⊎◌, true, false, List, [], ◌∷◌, length, Option, Some, None, option_map, codes, slice_index, arith, rules, refl, sym, inl, inr, subst, onto_first, nat_tests, is_digit-range, option_and_then, bytes_eq, cond_some, option_and_then_some, and_parts, cases_Bool, Class, C16, Version, Reference, Call, Put, Fill, Get, Set, Free, Sweep, Later, Tend, Trim, End, Begin, Line, number_in, same_bytes, reference_in, words_of, Word, Verb, Number, Named, Refers, IsWord, AreWords, SaysLine, HasForm, has_verb, class_filled, class_put, fill_verb, put_verb, set_verb, retire_verb, verb_of, words_of_call, bare_call, key_call, retire_call, aimed_call, with_name, value_call, set_call, valued_call, with_two, counted_call, thread_line, one_word, two_words, form_of_words, form_of, ap, ◌∙◌}
use Rattle.trace_text.specs.declared.line.Line.TheVariants as line
use Rattle.trace_text.specs.Name.{is_name}
use Rattle.trace_text.proofs.Tests.{chosen}
use Rattle.trace_text.proofs.Verbs.{class_filled-again, class_filled-found, class_put-again, class_put-found}

mapped : {A B : Type 0} (f : A → B) (o : Option A) (b : B) → option_map f o ≡ Some b → (a : A) × (o ≡ Some a) × (f a ≡ b)
mapped f None b e = cc
mapped f (Some a) b e = (a, refl, cc)

-- the words say the call
abbrev SaysCall : List (List ℕ) → Call → Type 0
SaysCall words call = AreWords words (words_of_call call)

-- ---- what is read has that form

bare_found : (verb : List ℕ) (w : Call) → bare_call verb ≡ Some w → SaysCall (verb ∷ []) w
bare_found verb w e = search (rules, chosen, same_bytes)

-- a call on a key, by its verb
one_key : (call : Reference → Call) (verb key text : List ℕ) (w : Call) → ((k : Reference) → words_of_call (call k) ≡ Verb text ∷ Refers k ∷ []) → verb ≡ text
    → option_map call (reference_in key) ≡ Some w → SaysCall (verb ∷ key ∷ []) w
one_key call verb key text w says is e = search (rules, mapped)

key_found : (verb key : List ℕ) (w : Call) → key_call verb key ≡ Some w → SaysCall (verb ∷ key ∷ []) w
key_found verb key w e = elim (chosen (bytes_eq verb (codes "get")) _ _ (Some w) e) [
  | inl p ↦ one_key Get verb key (codes "get") w (λ k. refl) (same_bytes verb (codes "get") p.0) p.1
  | inr p ↦ elim (chosen (bytes_eq verb (codes "free")) _ _ (Some w) p.1) [
    | inl q ↦ one_key Free verb key (codes "free") w (λ k. refl) (same_bytes verb (codes "free") q.0) q.1
    | inr q ↦ elim (chosen (bytes_eq verb (codes "later")) _ _ (Some w) q.1) [
      | inl r ↦ one_key Later verb key (codes "later") w (λ k. refl) (same_bytes verb (codes "later") r.0) r.1
      | inr r ↦ cc
    ]
  ]
]

retire_found : (verb most : List ℕ) (w : Call) → verb ≡ retire_verb → retire_call most ≡ Some w → SaysCall (verb ∷ most ∷ []) w
retire_found verb most w is e = search (rules, mapped)

aimed_found : (verb word : List ℕ) (w : Call) → aimed_call verb word ≡ Some w → SaysCall (verb ∷ word ∷ []) w
aimed_found verb word w e = elim (chosen (bytes_eq verb retire_verb) _ _ (Some w) e) [
  | inl p ↦ retire_found verb word w (same_bytes verb retire_verb p.0) p.1
  | inr p ↦ key_found verb word w p.1
]

value_found : (verb name value : List ℕ) (w : Call) → value_call verb name value ≡ Some w → SaysCall (verb ∷ name ∷ value ∷ []) w
value_found verb name value w e = option_and_then_some (λ class. option_and_then (λ v. with_name (λ n. Put n class v) name) (number_in value)) (class_put verb) w e
    (λ class its call. option_and_then_some (λ v. with_name (λ n. Put n class v) name) (number_in value) w call
    (λ v is then. let parts = cond_some (is_name name) (Put name class v) w then in
    subst (SaysCall (verb ∷ name ∷ value ∷ [])) parts.1 (class_put-found verb class its, ((refl, parts.0), (is, tt)))))

set_found : (verb key value : List ℕ) (w : Call) → verb ≡ set_verb → set_call key value ≡ Some w → SaysCall (verb ∷ key ∷ value ∷ []) w
set_found verb key value w is e = option_and_then_some (λ v. option_map (λ k. Set k C16 v) (reference_in key)) (number_in value) w e
    (λ v its call. let parts = mapped (λ k. Set k C16 v) (reference_in key) w call in
    subst (SaysCall (verb ∷ key ∷ value ∷ [])) parts.2 (is, (parts.1, (its, tt))))

valued_found : (verb target value : List ℕ) (w : Call) → valued_call verb target value ≡ Some w → SaysCall (verb ∷ target ∷ value ∷ []) w
valued_found verb target value w e = elim (chosen (bytes_eq verb set_verb) _ _ (Some w) e) [
  | inl p ↦ set_found verb target value w (same_bytes verb set_verb p.0) p.1
  | inr p ↦ value_found verb target value w p.1
]

-- a call with a name and two numbers, by its verb
two_found : (call : List ℕ → ℕ → ℕ → Call) (verb name first second text : List ℕ) (w : Call)
    → ((n : List ℕ) (a b : ℕ) → words_of_call (call n a b) ≡ Verb text ∷ Named n ∷ Number a ∷ Number b ∷ []) → verb ≡ text
    → with_two call name first second ≡ Some w → SaysCall (verb ∷ name ∷ first ∷ second ∷ []) w
two_found call verb name first second text w says is e =
    option_and_then_some (λ a. option_and_then (λ b. with_name (λ n. call n a b) name) (number_in second)) (number_in first) w e
    (λ a first_is then. option_and_then_some (λ b. with_name (λ n. call n a b) name) (number_in second) w then
    (λ b second_is last. let parts = cond_some (is_name name) (call name a b) w last in
    subst (SaysCall (verb ∷ name ∷ first ∷ second ∷ [])) parts.1 (subst (AreWords (verb ∷ name ∷ first ∷ second ∷ [])) (sym (says name a b)) (is, ((refl, parts.0), (first_is, (second_is, tt)))))))

counted_found : (verb name first second : List ℕ) (w : Call) → counted_call verb name first second ≡ Some w → SaysCall (verb ∷ name ∷ first ∷ second ∷ []) w
counted_found verb name first second w e = elim (chosen (bytes_eq verb (codes "sweep")) _ _ (Some w) e) [
  | inl p ↦ two_found (λ n a b. Sweep n a b) verb name first second (codes "sweep") w (λ n a b. refl) (same_bytes verb (codes "sweep") p.0) p.1
  | inr p ↦ option_and_then_some (λ class. with_two (λ n a b. Fill n class a b) name first second) (class_filled verb) w p.1
      (λ class its call. two_found (λ n a b. Fill n class a b) verb name first second (fill_verb class) w (λ n a b. refl) (class_filled-found verb class its) call)
]

-- what the words of a thread's line say, where the version has the verb
thread_found : (version : Version) (thread verb : List ℕ) (call : Option Call) (more : List (List ℕ)) (w : Line) → thread_line version thread verb call ≡ Some w
    → ((c : Call) → call ≡ Some c → SaysCall (verb ∷ more) c) → SaysLine version w (thread ∷ verb ∷ more)
thread_found version thread verb call more w e found = elim (chosen (has_verb version verb) _ None (Some w) e) [
  | inl p ↦ option_and_then_some (λ t. option_map (λ c. line.Call t c) call) (number_in thread) w p.1
      (λ t is then. let parts = mapped (λ c. line.Call t c) call w then in
      let says = found parts.0 parts.1 in
      let P : Line → Type 0 = λ v. SaysLine version v (thread ∷ verb ∷ more) in
      subst P parts.2 (subst (λ (b : List ℕ). has_verb version b ≡ true) says.0 p.0, (is, says)))
  | inr p ↦ cc p.1
]

one_found : (version : Version) (word : List ℕ) (w : Line) → one_word word ≡ Some w → SaysLine version w (word ∷ [])
one_found version word w e = search (rules, chosen, same_bytes)

two_words_found : (version : Version) (first second : List ℕ) (w : Line) → two_words version first second ≡ Some w → SaysLine version w (first ∷ second ∷ [])
two_words_found version first second w e = elim (chosen (bytes_eq first (codes "adopt")) _ _ (Some w) e) [
  | inl p ↦ let parts = mapped (λ s. line.Adopt s) (number_in second) w p.1 in
      let P : Line → Type 0 = λ v. SaysLine version v (first ∷ second ∷ []) in subst P parts.2 (same_bytes first (codes "adopt") p.0, (parts.1, tt))
  | inr p ↦ thread_found version first second (bare_call second) [] w p.1 (bare_found second)
]

words_found : (version : Version) (words : List (List ℕ)) (w : Line) → form_of_words version words ≡ Some w → SaysLine version w words
words_found version (a ∷ []) w e = one_found version a w e
words_found version (a ∷ b ∷ []) w e = two_words_found version a b w e
words_found version (a ∷ b ∷ c ∷ []) w e = thread_found version a b (aimed_call b c) (c ∷ []) w e (aimed_found b c)
words_found version (a ∷ b ∷ c ∷ d ∷ []) w e = thread_found version a b (valued_call b c d) (c ∷ d ∷ []) w e (valued_found b c d)
words_found version (a ∷ b ∷ c ∷ d ∷ f ∷ []) w e = thread_found version a b (counted_call b c d f) (c ∷ d ∷ f ∷ []) w e (counted_found b c d f)
words_found version words w e = cc

says_form : (version : Version) (bytes : List ℕ) (w : Line) → SaysLine version w (words_of bytes) → HasForm version w bytes
says_form version bytes w says = search rules

silent_found : (version : Version) (bytes : List ℕ) (w : Line) → (bytes ≡ []) ⊎ ((remark : List ℕ) × (bytes ≡ 35 ∷ remark)) → Some line.Silent ≡ Some w → HasForm version w bytes
silent_found version bytes w is e = let same : line.Silent ≡ w = cc in let P : Line → Type 0 = λ v. HasForm version v bytes in subst P same is

-- what is read has that form
pub form_found : (version : Version) (bytes : List ℕ) (w : Line) → form_of version bytes ≡ Some w → HasForm version w bytes
form_found version [] w e = silent_found version [] w (inl refl) e
form_found version (b ∷ bs) w e = search (rules, chosen, silent_found, says_form, words_found)

-- ---- what has a form is read

-- a set as its words alone say it, which are those of any class
abbrev pub plain_call : Call → Call
plain_call (Set key class value) = Set key C16 value
plain_call call = call

-- the same for a line
abbrev pub plain : Line → Line
plain (line.Call thread call) = line.Call thread (plain_call call)
plain w = w

-- one word says it, and others the rest
one_more : (words : List (List ℕ)) (p : Word) (ps : List Word) → AreWords words (p ∷ ps) → (a : List ℕ) × (more : List (List ℕ)) × (words ≡ a ∷ more) × IsWord a p × AreWords more ps
one_more [] p ps says = absurd says
one_more (a ∷ more) p ps says = (a, more, refl, says.0, says.1)

-- the words, by their number
one : (words : List (List ℕ)) (p : Word) → AreWords words (p ∷ []) → (a : List ℕ) × (words ≡ a ∷ []) × IsWord a p
one [] p says = absurd says
one (a ∷ []) p says = (a, refl, says.0)
one (a ∷ b ∷ more) p says = absurd says.1

two : (words : List (List ℕ)) (p q : Word) → AreWords words (p ∷ q ∷ []) → (a : List ℕ) × (b : List ℕ) × (words ≡ a ∷ b ∷ []) × IsWord a p × IsWord b q
two words p q says =
    let (a, more, is, its, others) = one_more words p (q ∷ []) says in
    let (b, are, last) = one more q others in (a, b, is ∙ ap (λ l. a ∷ l) are, its, last)

three : (words : List (List ℕ)) (p q r : Word) → AreWords words (p ∷ q ∷ r ∷ []) → (a : List ℕ) × (b : List ℕ) × (c : List ℕ) × (words ≡ a ∷ b ∷ c ∷ []) × IsWord a p × IsWord b q × IsWord c r
three words p q r says =
    let (a, more, is, its, others) = one_more words p (q ∷ r ∷ []) says in
    let (b, c, are, next, last) = two more q r others in (a, b, c, is ∙ ap (λ l. a ∷ l) are, its, next, last)

four : (words : List (List ℕ)) (p q r s : Word) → AreWords words (p ∷ q ∷ r ∷ s ∷ [])
    → (a : List ℕ) × (b : List ℕ) × (c : List ℕ) × (d : List ℕ) × (words ≡ a ∷ b ∷ c ∷ d ∷ []) × IsWord a p × IsWord b q × IsWord c r × IsWord d s
four words p q r s says =
    let (a, more, is, its, others) = one_more words p (q ∷ r ∷ s ∷ []) says in
    let (b, c, d, are, next, third, last) = three more q r s others in (a, b, c, d, is ∙ ap (λ l. a ∷ l) are, its, next, third, last)

-- a number begins with a digit
first_of_number : (word : List ℕ) (n : ℕ) → number_in word ≡ Some n → (0 < length word) × (48 ≤ slice_index word 0) × (slice_index word 0 < 58)
first_of_number [] n e = cc
first_of_number (c ∷ cs) n e = search (rules, cond_some, and_parts, nat_lt, slice_index, is_digit-range)

-- so it is no `adopt`
not_adopt : (word : List ℕ) (n : ℕ) → number_in word ≡ Some n → bytes_eq word (codes "adopt") ≡ false
not_adopt word n is = search (rules, cases_Bool, first_of_number, slice_index, same_bytes)

thread_again : (version : Version) (thread verb : List ℕ) (t : ℕ) (call : Option Call) (c : Call) → has_verb version (verb_of c) ≡ true → verb ≡ verb_of c
    → number_in thread ≡ Some t → call ≡ Some c → thread_line version thread verb call ≡ Some (line.Call t c)
thread_again version thread verb t call c has its is said = rw (its, has, is, said) refl

named_again : (name bytes : List ℕ) (call : List ℕ → Call) → (bytes ≡ name) × (is_name name ≡ true) → with_name call bytes ≡ Some (call name)
named_again name bytes call is = rw (is.0, is.1) refl

value_again : (class : Class) (name value : List ℕ) (v : ℕ) (bytes : List ℕ) → (bytes ≡ name) × (is_name name ≡ true) → number_in value ≡ Some v
    → value_call (put_verb class) bytes value ≡ Some (Put name class v)
value_again class name value v bytes named is = rw (class_put-again class, is) (named_again name bytes (λ n. Put n class v) named)

valued_again : (class : Class) (name value : List ℕ) (v : ℕ) (bytes : List ℕ) → (bytes ≡ name) × (is_name name ≡ true) → number_in value ≡ Some v
    → valued_call (put_verb class) bytes value ≡ Some (Put name class v)
valued_again class name value v bytes named is = value_again class name value v bytes named is

set_again : (key : Reference) (bytes value : List ℕ) (v : ℕ) → reference_in bytes ≡ Some key → number_in value ≡ Some v → valued_call set_verb bytes value ≡ Some (Set key C16 v)
set_again key bytes value v refers is = rw (is, refers) refl

two_again : (call : List ℕ → ℕ → ℕ → Call) (name bytes first second : List ℕ) (a b : ℕ) → (bytes ≡ name) × (is_name name ≡ true) → number_in first ≡ Some a
    → number_in second ≡ Some b → with_two call bytes first second ≡ Some (call name a b)
two_again call name bytes first second a b named fst snd = rw (fst, snd) (named_again name bytes (λ n. call n a b) named)

fill_again : (class : Class) (name bytes first second : List ℕ) (n v : ℕ) → (bytes ≡ name) × (is_name name ≡ true) → number_in first ≡ Some n
    → number_in second ≡ Some v → counted_call (fill_verb class) bytes first second ≡ Some (Fill name class n v)
fill_again class name bytes first second n v named fst snd = search (rules, class_filled-again, two_again)

-- a line whose words say a thread's call is read as that
call_again : (version : Version) (words : List (List ℕ)) (t : ℕ) (c : Call) → SaysLine version (line.Call t c) words → form_of_words version words ≡ Some (line.Call t (plain_call c))
call_again version words t (Put name class v) says = let w = one_more words (Number t) _ says.1 in let u = three w.1 _ _ _ w.4 in
    rw (w.2, u.3, u.4) (thread_again version w.0 _ t _ (Put name class v) says.0 refl w.3 (valued_again class name u.2 v u.1 u.5 u.6))
call_again version words t (Set key class v) says = search (rules, one_more, three, thread_again, set_again)
call_again version words t (Fill name class n v) says = let w = one_more words (Number t) _ says.1 in let u = four w.1 _ _ _ _ w.4 in
    rw (w.2, u.4, u.5) (thread_again version w.0 _ t _ (Fill name class n v) says.0 refl w.3 (fill_again class name u.1 u.2 u.3 n v u.6 u.7 u.8))
call_again version words t (Sweep name from to) says = search (rules, one_more, four, thread_again, two_again)
call_again version words t Tend says = search (rules, one_more, one, not_adopt, thread_again)
call_again version words t Trim says = search (rules, one_more, one, not_adopt, thread_again)
call_again version words t Begin says = search (rules, one_more, one, not_adopt, thread_again)
call_again version words t End says = search (rules, one_more, one, not_adopt, thread_again)
call_again version words t c says = search (rules, one_more, two, thread_again)

adopt_again : (version : Version) (words : List (List ℕ)) (a b : List ℕ) (s : ℕ) → words ≡ a ∷ b ∷ [] → a ≡ codes "adopt" → number_in b ≡ Some s → form_of_words version words ≡ Some (line.Adopt s)
adopt_again version words a b s split is number = rw (split, is, number) refl

mark_again : (version : Version) (words : List (List ℕ)) (a : List ℕ) → words ≡ a ∷ [] → a ≡ codes "mark" → form_of_words version words ≡ Some line.Mark
mark_again version words a split is = rw (split, is) refl

-- the first byte of a line of words is no `#`
words_again : (version : Version) (words : List (List ℕ)) (w : Line) → SaysLine version w words
    → (form_of_words version words ≡ Some (plain w)) × (first : List ℕ) × (more : List (List ℕ)) × (words ≡ first ∷ more) × (0 < length first)
    × (35 < slice_index first 0)
words_again version words line.Silent says = absurd says
words_again version words (line.Adopt s) says = search (rules, two, adopt_again)
words_again version words line.Mark says = search (rules, one, mark_again)
words_again version words (line.Call t c) says = grind (arith, common_steps, one_more, first_of_number, call_again)

first_word : (b : ℕ) (parts : List (List ℕ)) (word : List ℕ) (words : List (List ℕ)) → onto_first b parts ≡ word ∷ words → slice_index word 0 ≡ b
first_word b [] word words e = let is : b ∷ [] ≡ word = cc in rw (← is) refl
first_word b (part ∷ parts) word words e = let is : b ∷ part ≡ word = cc in rw (← is) refl

above_remark : (b : ℕ) → 35 < b → (b == 35) ≡ false
above_remark b h = grind (arith, nat_tests)

-- so a line of such words is no remark
no_remark : (b : ℕ) (bs word : List ℕ) (words : List (List ℕ)) → words_of (b ∷ bs) ≡ word ∷ words → 0 < length word → 35 < slice_index word 0 → (b == 35) ≡ false
no_remark b bs word words e some above = search (rules, chosen, above_remark, first_word)

bytes_again : (version : Version) (bytes : List ℕ) (w : Line) → SaysLine version w (words_of bytes) → form_of version bytes ≡ Some (plain w)
bytes_again version [] w says = search (rules, words_again)
bytes_again version (b ∷ bs) w says = search (rules, words_again, no_remark)

-- what has a form is read as that line, but for the class of a set
pub form_again : (version : Version) (w : Line) (bytes : List ℕ) → HasForm version w bytes → form_of version bytes ≡ Some (plain w)
form_again version line.Silent bytes (inl e) = rw e refl
form_again version line.Silent bytes (inr (remark, e)) = rw e refl
form_again version w bytes says = bytes_again version bytes w says
