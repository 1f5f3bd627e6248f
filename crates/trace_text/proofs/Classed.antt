-- Sets with the class that lines bind their keys with.
use Rattle.trace_text.proofs.Names.{◌≡◌, ℕ, cond, List, Option, Some, None, option_map, refl, ap, option_map_or, C16, clip, binding_of, class_named, classed, is_call, is_of_kind, HasForm, clip_reference, clip_line, is_value_over, Version, Reference, Binding, Set, Keys, Line, rules}
use Rattle.trace_text.specs.declared.line.Line.TheVariants as line
use Rattle.trace_text.proofs.Lines.{plain}

-- the class of a set is in none of its words
pub HasForm-classed : (version : Version) (before : List Line) (bytes : List ℕ) (w : Line) → HasForm version w bytes → HasForm version (classed before w) bytes
HasForm-classed version before bytes w form = search rules

-- a class that is given twice is the one that is given once
pub classed-again : (before : List Line) (w : Line) → classed before (classed before w) ≡ classed before w
classed-again before w = search rules

-- and the one that stood there before is nothing to it
pub classed-plain : (before : List Line) (w : Line) → classed before (plain w) ≡ classed before w
classed-plain before w = search rules

-- a value is over in any class
pub value_over-classed : (before : List Line) (w : Line) → is_call is_value_over (classed before w) ≡ is_call is_value_over w
value_over-classed before w = search rules

-- ---- clipping an index changes no class

is_of_kind-clip : (i : Option ℕ) (keys : Keys) → is_of_kind (option_map clip i) keys ≡ is_of_kind i keys
is_of_kind-clip i keys = search rules

same_class : (i : Option ℕ) (o : Option Binding)
    → option_map_or (λ (b : Binding). cond (is_of_kind (option_map clip i) b.keys) b.class C16) o C16
    ≡ option_map_or (λ (b : Binding). cond (is_of_kind i b.keys) b.class C16) o C16
same_class i None = refl
same_class i (Some b) = ap (λ of_kind. cond of_kind b.class C16) (is_of_kind-clip i b.keys)

class_named-clip : (before : List Line) (key : Reference) → class_named before (clip_reference key) ≡ class_named before key
class_named-clip before key = same_class key.index (binding_of key.name before)

pub classed-clip : (before : List Line) (w : Line) → classed before (clip_line w) ≡ clip_line (classed before w)
classed-clip before (line.Call t (Set key class v)) = ap (λ k. line.Call (clip t) (Set (clip_reference key) k v)) (class_named-clip before key)
classed-clip before w = refl
