pub mod FileExports
