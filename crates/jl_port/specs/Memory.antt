-- What the sources and sinks over memory hold, and what one call makes of it.
use Rattle.std.specs.Prelude.{◌≡◌, ◌⊎◌, ℕ, ◌<◌, List, ◌++◌, length, drop, Contains}
use Rattle.jl_port.specs.Count.{one_more}

-- a source over memory: the bytes still to come, the reads so far, the numbers of the reads that
-- fail, and how many failed
pub record Supply : Type 0 where
  pub left : List ℕ
  pub calls : ℕ
  pub fails : List ℕ
  pub faults : ℕ

-- the source after a read that gave n bytes
abbrev pub after_read : Supply → ℕ → Supply
after_read supply n = record supply { left = drop n supply.left; calls = one_more supply.calls }

-- the source after a read that failed
abbrev pub after_failed_read : Supply → Supply
after_failed_read supply = record supply { calls = one_more supply.calls; faults = one_more supply.faults }

-- a sink over memory: the bytes written, the most that one write takes, the room for all, the writes
-- so far, the numbers of the writes that fail, and how many failed
pub record Store : Type 0 where
  pub written : List ℕ
  pub most : ℕ
  pub room : ℕ
  pub calls : ℕ
  pub fails : List ℕ
  pub faults : ℕ

-- the sink after a write that took these bytes
abbrev pub after_write : Store → List ℕ → Store
after_write store taken = record store { written = store.written ++ taken; calls = one_more store.calls }

-- the sink after a write that failed
abbrev pub after_failed_write : Store → Store
after_failed_write store = record store { calls = one_more store.calls; faults = one_more store.faults }

-- the next write of these bytes fails: it is listed, or there is a byte and the room is full
abbrev pub IsRefused : Store → List ℕ → Type 0
IsRefused store bytes =
    Contains store.fails (one_more store.calls) ⊎ ((0 < length bytes) × (length store.written ≡ store.room))
