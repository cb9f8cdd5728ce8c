-- 02, 10/12: "Edition 1 stays for A up to 64 and edition 2 is only for 65 to 128".
use Rattle.std.specs.Prelude.{◌≡◌, ℕ, ◌≤◌, ◌<◌}

-- an edition that goes with A
pub data Edition (edition A : ℕ) : Type 0 where
  first : edition ≡ 1 → A ≤ 64 → Edition edition A
  second : edition ≡ 2 → 64 < A → A ≤ 128 → Edition edition A
