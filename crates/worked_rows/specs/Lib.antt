pub mod SizeRows
pub mod Kernels
pub mod SystemKernels
pub mod KernelRows
pub mod Systems
pub mod SystemRows
