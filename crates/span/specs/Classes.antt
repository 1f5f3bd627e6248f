-- The size classes: how many words an object has, how many slots a page.
use Rattle.std.specs.Prelude.{◌≡◌, ℕ, ◌==◌, List, length, if◌then◌else◌}
use Rattle.span.specs.declared.class.Class.{Class}
use Rattle.span.specs.declared.class.Class.TheVariants.{C16, C32, C48, C64, C80, C96, C112, C128, C144, C160, C176, C192, C208, C224, C240, C256}

-- how many slots a page of the class has: as many as 256 words have room for
abbrev pub slots_in : Class → ℕ
slots_in C16 = 256
slots_in C32 = 128
slots_in C48 = 85
slots_in C64 = 64
slots_in C80 = 51
slots_in C96 = 42
slots_in C112 = 36
slots_in C128 = 32
slots_in C144 = 28
slots_in C160 = 25
slots_in C176 = 23
slots_in C192 = 21
slots_in C208 = 19
slots_in C224 = 18
slots_in C240 = 17
slots_in C256 = 16

-- how many words an object of the class has
abbrev pub width_of : Class → ℕ
width_of C16 = 1
width_of C32 = 2
width_of C48 = 3
width_of C64 = 4
width_of C80 = 5
width_of C96 = 6
width_of C112 = 7
width_of C128 = 8
width_of C144 = 9
width_of C160 = 10
width_of C176 = 11
width_of C192 = 12
width_of C208 = 13
width_of C224 = 14
width_of C240 = 15
width_of C256 = 16

-- the place of the class among all, the narrowest first
abbrev pub number_of : Class → ℕ
number_of C16 = 0
number_of C32 = 1
number_of C48 = 2
number_of C64 = 3
number_of C80 = 4
number_of C96 = 5
number_of C112 = 6
number_of C128 = 7
number_of C144 = 8
number_of C160 = 9
number_of C176 = 10
number_of C192 = 11
number_of C208 = 12
number_of C224 = 13
number_of C240 = 14
number_of C256 = 15

-- the class of objects of so many words, or that of 16 if no class has as many
abbrev pub class_with : ℕ → Class
class_with n =
    if n == 1 then C16 else
    if n == 2 then C32 else
    if n == 3 then C48 else
    if n == 4 then C64 else
    if n == 5 then C80 else
    if n == 6 then C96 else
    if n == 7 then C112 else
    if n == 8 then C128 else
    if n == 9 then C144 else
    if n == 10 then C160 else
    if n == 11 then C176 else
    if n == 12 then C192 else
    if n == 13 then C208 else
    if n == 14 then C224 else
    if n == 15 then C240 else C256

-- the class of an object, which the number of its words tells
abbrev pub class_of : List ℕ → Class
class_of words = class_with (length words)

-- the words are those of an object: as many as one of the classes has, 1 to 16
abbrev pub IsObject : List ℕ → Type 0
IsObject words = length words ≡ width_of (class_of words)
