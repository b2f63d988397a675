-- The bytes of the sheets' lines. Assumes nothing.
use Rattle.std.specs.Prelude.{ℕ, List, [], ◌∷◌, ◌++◌, Some, None, codes, decimal, Option}
use Rattle.std.specs.List.{flat_map}

-- two numbers, each with a space behind it
abbrev pub values : ℕ → ℕ → List ℕ
values m n = decimal m ++ (32 ∷ (decimal n ++ (32 ∷ [])))

-- numbers with dots between
abbrev pub dotted : List ℕ → List ℕ
dotted [] = []
dotted (c ∷ cs) = decimal c ++ flat_map (λ d. 46 ∷ decimal d) cs

-- `size number choices`, the choices joined by dots
abbrev pub choice_line : ℕ → ℕ → List ℕ → List ℕ
choice_line size number cs = values size number ++ (dotted cs ++ (10 ∷ []))

-- `size number text`
abbrev pub text_line : ℕ → ℕ → List ℕ → List ℕ
text_line size number text = values size number ++ (text ++ (10 ∷ []))

-- a number, or a dash where it is absent
abbrev pub shown_text : Option ℕ → List ℕ
shown_text (Some n) = decimal n
shown_text None = 45 ∷ []

-- `kind name size total`
abbrev pub total_line : ℕ → List ℕ → ℕ → Option ℕ → List ℕ
total_line letter name size total = letter ∷ (32 ∷ (name ++ (32 ∷ (decimal size ++ (32 ∷ (shown_text total ++ (10 ∷ [])))))))

-- a refusal: a line of names, and its number, place and length
abbrev pub refusal_lines : ℕ → ℕ → ℕ → List ℕ
refusal_lines number place len = codes "refused place length" ++ (10 ∷ (values number place ++ (decimal len ++ (10 ∷ []))))
