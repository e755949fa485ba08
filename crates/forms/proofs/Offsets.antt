-- Kinds and ways lie within their row.
use Rattle.std.proofs.Common.{ℕ, ◌+◌, ◌<◌, ◌≤◌, arith}
use Rattle.forms.specs.declared.room.Room.{Room}
use Rattle.forms.specs.declared.room.Room.TheVariants.{Plain, Both, Either}
use Rattle.forms.specs.Layout.{room_kinds, room_ways, block_length, row_length, kind_start, way_start}

pub kind_within : (room : Room) (k : ℕ) → k < room_kinds room → kind_start room k + block_length room ≤ row_length room
unfolding kind_start
kind_within Plain k h = omega arith
kind_within Both k h = omega arith
kind_within Either k h = omega arith

pub way_within : (room : Room) (k w : ℕ) → k < room_kinds room → w < room_ways room → way_start room k w + 16 ≤ row_length room
unfolding kind_start way_start
way_within Plain k w h l = omega arith
way_within Both k w h l = omega arith
way_within Either k w h l = omega arith

-- Every row asked for is short.
pub row_short : (room : Room) → (1 < row_length room) × (row_length room ≤ 2321)
row_short Plain = omega arith
row_short Both = omega arith
row_short Either = omega arith

-- No room is for more than 16 kinds, of 9 ways each.
pub room_small : (room : Room) → (room_kinds room ≤ 16) × (room_ways room ≤ 9)
room_small Plain = omega arith
room_small Both = omega arith
room_small Either = omega arith
