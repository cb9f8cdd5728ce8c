-- What shut a step out last and was not followed by what lets it in, for any trace (02, 8/12: "a way out" begins with why a step is refused).
use Rattle.std.specs.Prelude.{List, [], ◌∷◌, ℕ}
use Rattle.sets.specs.Tests.{when◌then◌else◌}
use Rattle.engine.specs.Relations.{Relations}

-- no activity
abbrev pub nothing : ℕ
nothing = 255

-- `last` shut a out so far; then comes e. What both includes and excludes lets in, since an include wins (01, "A step").
unfoldable pub shut_after : Relations → ℕ → ℕ → ℕ → ℕ
shut_after r a last e = when r.includes e a then nothing else when r.excludes e a then e else last

-- event by event
unfoldable pub shut_from : Relations → ℕ → ℕ → List ℕ → ℕ
shut_from r a last [] = last
shut_from r a last (e ∷ σ) = shut_from r a (shut_after r a last e) σ

-- "what shut the step out last and was not followed by what lets it in"; 255 where nothing did
unfoldable pub shut_by : Relations → List ℕ → ℕ → ℕ
shut_by r σ a = shut_from r a nothing σ
