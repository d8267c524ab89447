use mathlib.Core.Path.{◌≡◌, refl}
use Prim.Native.Nat.{◌-◌, min}
use native.Mathlib.Omega.{arith}
use lib.ListN.{length, set}
use Rattle.tables.specs.Tables.{shifted}
use Rattle.tables.proofs.TablesLaws.{missing, removed_at, removed_missing, shift_copied, stands}
use Rattle.tables.proofs.table.remove.Goals as goal

pub returns-in-Some : goal.returns-in-Some
returns-in-Some g c =
    let a = c.args in
    let m = g.E.Entry in
    let n = min a.count (length a.table.now) in
    let s = stands m.number a.table.now a.count _ m.blank _ c.number_of.ensures _ c.place.ensures c.in-Some.p c.in-Some.is in
    let moved : set c.copy_within.new.self (c.min-n.result - 1) c.blank.result ≡ shifted m.blank c.in-Some.p n a.table.now =
    rw (c.blank.ensures, c.copy_within.ensures.after, c.min-n.ensures) (shift_copied m.blank n a.table.now c.in-Some.p s.0 (omega arith)) in
    removed_at m.number a.table.now a.count _ refl _ c.in-Some.p m.blank s m.blank _ moved

pub returns-in_default : goal.returns-in_default
returns-in_default g c =
    let a = c.args in
    let m = g.E.Entry in
    removed_missing m.number a.table.now a.count _ refl _ m.blank (missing m.number a.table.now a.count _ m.blank _ c.number_of.ensures _ c.place.ensures c.in_default.is)
