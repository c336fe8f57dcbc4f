-- Programs may be shared by threads. Blocks contain statements and statements contain blocks, and expressions contain
-- expressions. So the proof treats each layer separately. The layers inside it are holes (`denote.Hole`).
use denote.Builtin as builtin
use denote.Hole.{as_row}
use denote.Hole.FixSend.{Syncs, fix_sync}
use denote.Param.Send.{IsSync, sendable}
use denote.Param.SendFields.{VariantsHave, FieldsHave, variants_sync, declared_sync, as_row_sync}
use denote.RattleType.{RattleType}
use denote.Struct.Field.{row_field, u8-field, u16-field}
use Rattle.std.proofs.option.Option.TheSendSync as option
use Rattle.std.proofs.Crossing.{Box-sync, Vec-sync}
use Rattle.std.specs.contracts.vec.Vec as Vec
use Rattle.std.specs.contracts.alloc.Global as Heap
use Rattle.std.specs.contracts.impls.GlobalAllocator.TheImpl.{ghosts}
use Rattle.std.specs.contracts.option.Option as Option
use Rattle.program_tree.specs.contracts.flat_block.FlatBlock as FlatBlock
use Rattle.program_tree.specs.contracts.formula.Formula as Formula
use Rattle.program_tree.specs.contracts.instruction.Instruction as Instruction
use Rattle.program_tree.specs.contracts.process_text.ProcessText as ProcessText
use Rattle.program_tree.specs.contracts.program.Program as Program
use Rattle.program_tree.specs.contracts.timer.Timer as Timer
use Rattle.program_tree.specs.contracts.tree.Action as Action
use Rattle.program_tree.specs.contracts.tree.Block as Block
use Rattle.program_tree.specs.contracts.tree.Expr as Expr
use Rattle.program_tree.specs.contracts.tree.Expr.TheKnot as expr-knot
use Rattle.program_tree.specs.contracts.tree.Stmt as Stmt
use Rattle.program_tree.specs.contracts.tree.Stmt.TheKnot as stmt-knot
use Rattle.program_tree.proofs.event_name.TestedEvent.TheSendSync as event
use Rattle.program_tree.proofs.event_name.BroadcastEvent.TheSendSync as cast
use Rattle.program_tree.proofs.event_name.PostedEvent.TheSendSync as sent
use Rattle.program_tree.proofs.formula.Term.TheSendSync as term
use Rattle.program_tree.proofs.names.Names.TheSendSync as names
use Rattle.program_tree.proofs.timer.Timer.TheSendSync as timer
use Rattle.program_tree.proofs.tree.Operator.TheSendSync as operator

byte : IsSync builtin.u8
byte = search sendable

short : IsSync builtin.u16
short = search sendable

u8 : IsSync (as_row u8-field)
u8 = search sendable

u16 : IsSync (as_row u16-field)
u16 = search sendable

expr_fields : (H : RattleType) → IsSync H → VariantsHave IsSync (expr-knot.type-Expr H H H).parts
expr_fields H s = let b = Box-sync H s in
    ((u16, tt), ((u8, tt), (tt, (tt, (tt, (tt, ((event.the_sync, tt), ((u8, tt), ((u8, tt), ((u8, tt), ((u8, tt), ((u8, tt), ((b, tt), ((operator.the_sync, (b, (b, tt))), tt))))))))))))))

expr_layer : (i : expr-knot.the_members) → Syncs Expr.the_ring i
expr_layer = Expr.by_members (Syncs Expr.the_ring) (record { sync = λ h s. let H = h Expr.the_member in variants_sync (expr-knot.type-Expr H H H) (expr_fields H (s Expr.the_member)) })

pub expr_sync : IsSync Expr.the_row
expr_sync = variants_sync Expr.enum (expr_fields expr-knot.hole-Expr (fix_sync Expr.the_ring expr_layer Expr.the_member))

option_u8 : IsSync (as_row (Option.the_field builtin.u8))
option_u8 = option.the_sync builtin.u8 byte

pub action_sync : IsSync Action.the_row
action_sync = variants_sync Action.enum (search (tt, u8, expr_sync, option_u8, cast.the_sync, sent.the_sync) depth 60)

stmt_fields : (H : RattleType) → IsSync H → VariantsHave IsSync (stmt-knot.type-Stmt H H H).parts
stmt_fields H s = let e = as_row_sync (row_field Expr.the_row) expr_sync in let b = as_row_sync (row_field H) s in
    ((as_row_sync (row_field Action.the_row) action_sync, tt), ((e, (b, (as_row_sync (row_field (Option.the_row H)) (option.the_sync H s), tt))), ((e, (b, tt)), tt)))

block_fields : (H : RattleType) → IsSync H → FieldsHave IsSync (stmt-knot.type-Block H).parts
block_fields H s = (as_row_sync (row_field (Vec.the_row H Heap.the_row ghosts)) (Vec-sync H s), tt)

stmt_layers : (i : stmt-knot.the_members) → Syncs Stmt.the_ring i
stmt_layers = Stmt.by_members (Syncs Stmt.the_ring)
    (record { sync = λ h s. let H = h Block.the_member in variants_sync (stmt-knot.type-Stmt H H H) (stmt_fields H (s Block.the_member)) })
    (record { sync = λ h s. let H = h Stmt.the_member in declared_sync (stmt-knot.type-Block H) (block_fields H (s Stmt.the_member)) })

pub block_sync : IsSync Block.the_row
block_sync = declared_sync Block.the_type (block_fields stmt-knot.hole-Stmt (fix_sync Stmt.the_ring stmt_layers Stmt.the_member))

pub stmt_sync : IsSync Stmt.the_row
stmt_sync = let e = expr_sync in let b = block_sync in
    variants_sync Stmt.enum ((action_sync, tt), ((e, (b, (option.the_sync Block.the_row b, tt))), ((e, (b, tt)), tt)))

formula_sync : IsSync Formula.the_row
formula_sync = let t = term.the_sync in let o = operator.the_sync in
    variants_sync Formula.enum ((o, (t, (t, tt))), ((o, (o, (t, (t, (t, tt))))), ((expr_sync, tt), tt)))

instruction_sync : IsSync Instruction.the_row
instruction_sync = let f = formula_sync in let t = term.the_sync in let o = operator.the_sync in
    variants_sync Instruction.enum (
      (action_sync, (u16, tt)),
      (
        (u8, (f, (u16, tt))),
        (
          (u8, (t, (u16, tt))),
          (
            (u8, (o, (u8, (u16, (u16, tt))))),
            ((f, (u16, (u16, tt))), ((t, (u16, (u16, tt))), ((o, (u8, (u16, (u16, (u16, tt))))), tt))),
          ),
        ),
      ),
    )

pub flat_sync : IsSync FlatBlock.the_row
flat_sync = declared_sync FlatBlock.the_type (block_sync, (Vec-sync Instruction.the_row instruction_sync, tt))

pub text_sync : IsSync ProcessText.the_row
text_sync = let n = names.the_sync in let bs = Vec-sync FlatBlock.the_row flat_sync in let o = option.the_sync FlatBlock.the_row flat_sync in
    declared_sync ProcessText.the_type (u8, (n, (Vec-sync builtin.u16 short, (u8, (n, (n, (bs, (n, (bs, (o, (o, (flat_sync, tt))))))))))))

pub program_sync : IsSync Program.the_row
program_sync = let n = names.the_sync in
    declared_sync Program.the_type (n, (n, (Vec-sync builtin.u16 short, (n, (Vec-sync builtin.u8 byte, (option_u8, (Vec-sync ProcessText.the_row text_sync, (Vec-sync Timer.the_row timer.the_sync, tt))))))))

pub ruleset shared = (expr_sync, action_sync, block_sync, stmt_sync, flat_sync, text_sync, program_sync)
