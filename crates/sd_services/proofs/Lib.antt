pub mod NoRequests
pub mod RpcSilence
pub mod SwapAccess
pub mod Spelled
pub mod CallLaws
mod NfsRows
mod MountRows
pub mod Order
pub mod Numbering
