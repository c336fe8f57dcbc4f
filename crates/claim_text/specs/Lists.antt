-- The text of lists.
use Rattle.std.specs.Prelude.{ℕ, List, [], ◌∷◌, ◌++◌}
use Rattle.std.specs.List.{flat_map}

-- texts behind a word, with a word between two; or the word for none
abbrev pub list_text : (none before between : List ℕ) → (texts : List (List ℕ)) → List ℕ
list_text none before between [] = none
list_text none before between (t ∷ ts) = before ++ (t ++ flat_map (λ u. between ++ u) ts)
